-- Laws of prices: a page's fill has an entry among them (fill_most), each entry is from 90 to 410 cents (all_in_range),
-- and what a difference of two numbers is, over the integers (less_is). Assumes nothing.
use Rattle.std.specs.Prelude.{ℕ, ◌+◌, ◌*◌, ◌≤◌, Bool, true, ◌&&◌, ◌≡◌, refl, leb, ℤ, pos, neg_ℤ, ◌+ℤ◌, ◌-ℤ◌}
use Rattle.std.proofs.Common.{arith, sym, ◌∙◌, ap}
use Rattle.std.proofs.Math.Nat.{div-le_of_le-mul}
use Rattle.std.proofs.Math.IntN.{+ℤ-neg_ℤ_cancel, neg_ℤ-+ℤ, +ℤ_assoc, +ℤ_invr, +ℤ_idl}
use Rattle.model.specs.Basics.{every}
use Rattle.model.specs.Prices.{full_fill, fill_of, prices}
use Rattle.model.specs.Demand.{Difference}

-- ---- Fills

module _ (weight limit : ℕ) (within : weight ≤ limit) where
  pub fill_most : fill_of weight limit ≤ full_fill
  fill_most = omega (arith, div-le_of_le-mul limit {m = full_fill * weight} {n = full_fill} (omega arith))

-- ---- Prices

-- the table's rule
abbrev pub in_range : ℕ → Bool
in_range cents = leb 90 cents && leb cents 410

pub all_in_range : every in_range prices ≡ true
unfolding every
all_in_range = refl

-- ---- Differences

pub less_is : (a b : ℕ) → Difference a b (pos a -ℤ pos b)
less_is a b =
    record {
      exact = refl;
      above = λ n e. ap (λ k. pos k -ℤ pos b) (commuted n e) ∙ +ℤ-neg_ℤ_cancel (pos n) (pos b);
      below =
          λ n e.
          ap (λ k. pos a -ℤ pos k) e ∙ ap (λ (z : ℤ). pos a +ℤ z) (neg_ℤ-+ℤ (pos a) (pos n))
          ∙ sym (+ℤ_assoc (pos a) (neg_ℤ (pos a)) (neg_ℤ (pos n)))
          ∙ ap (λ (z : ℤ). z +ℤ neg_ℤ (pos n)) (+ℤ_invr (pos a)) ∙ +ℤ_idl (neg_ℤ (pos n));
    }
  where
    commuted : (n : ℕ) → a ≡ b + n → a ≡ n + b
    commuted n e = omega (arith, e)
