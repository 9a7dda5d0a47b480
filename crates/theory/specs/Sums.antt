-- Laws of sums of 1 to n beyond those of Ranges: a sum with one term, one term of a sum, bounds of all terms, the
-- terms of a choice. Assumes nothing.
use Rattle.std.specs.Prelude.{ℕ, zero, suc, ◌+◌, ◌*◌, ◌≤◌, Bool, true, false, ◌≡◌, refl, eqb}
use Rattle.std.proofs.Common.{arith, ap, ⊎_elim, eq-eqb, ne_eqb}
use Rattle.model.specs.Basics.{pick, sum_to}
use Rattle.theory.specs.Ranges.{Upto, pick_true, pick_false, upto_suc, upto_less, upto_last, sum_to_zero}
use Rattle.theory.specs.Ranges.{sum_to_suc, sum_to_none}

-- ---- Choices of numbers

pub pick_add : (b : Bool) (x y : ℕ) → pick b (x + y) 0 ≡ pick b x 0 + pick b y 0
unfolding pick
pick_add true x y = refl
pick_add false x y = refl

pub pick_none : (b : Bool) → pick {X = ℕ} b 0 0 ≡ 0
unfolding pick
pick_none true = refl
pick_none false = refl

-- ---- Sums

-- all but one of the terms are 0
pub sum_to_only : (n q x : ℕ) → 1 ≤ q → q ≤ n → sum_to n (λ p. pick (eqb q p) x 0) ≡ x
sum_to_only zero q x low high = absurd (omega arith)
sum_to_only (suc n) q x low high =
    let more = sum_to_suc n (λ p. pick (eqb q p) x 0) in
    ⊎_elim
    (λ h.
    omega (arith, more, sum_to_only n q x low h, pick_false (eqb q (suc n)) x 0 (ne_eqb q (suc n) (λ e. omega arith))))
    (λ e.
    omega (
      arith,
      more,
      pick_true (eqb q (suc n)) x 0 (eq-eqb q (suc n) e),
      sum_to_none n (λ p. pick (eqb q p) x 0) (λ p l h. pick_false (eqb q p) x 0 (ne_eqb q p (λ e'. omega arith))),
    ))
    (upto_suc n q high)

-- one number of a sum
pub sum_to_one : (n v : ℕ) (f : ℕ → ℕ) → 1 ≤ v → v ≤ n → f v ≤ sum_to n f
sum_to_one zero v f low high = absurd (omega arith)
sum_to_one (suc n) v f low high =
    ⊎_elim (λ l. omega (arith, sum_to_one n v f low l, sum_to_suc n f)) (λ e. omega (arith, sum_to_suc n f, ap f e))
    (upto_suc n v high)

-- all terms are k at most
pub sum_to_most : (n k : ℕ) (f : ℕ → ℕ) → Upto n (λ v. f v ≤ k) → sum_to n f ≤ n * k
sum_to_most zero k f h = omega (arith, sum_to_zero f)
sum_to_most (suc n) k f h =
    omega (
      arith,
      sum_to_suc n f,
      sum_to_most n k f (upto_less (λ v. f v ≤ k) n h),
      upto_last (λ v. f v ≤ k) n h,
    )

-- all terms are k at least
pub sum_to_least : (n k : ℕ) (f : ℕ → ℕ) → Upto n (λ v. k ≤ f v) → n * k ≤ sum_to n f
sum_to_least zero k f h = omega (arith, sum_to_zero f)
sum_to_least (suc n) k f h =
    omega (
      arith,
      sum_to_suc n f,
      sum_to_least n k f (upto_less (λ v. k ≤ f v) n h),
      upto_last (λ v. k ≤ f v) n h,
    )
