-- Numbers in decimal: their digits one by one, and how many there are at most.
-- Proves no_digits, one_digit, more_digits, digits_most, decimal_length. Assumes nothing.
use Rattle.std.specs.Prelude.{ℕ, zero, suc, ◌+◌, ◌/◌, ◌%◌, ◌≤◌, ◌<◌, Bool, true, false, ◌≡◌, refl, [], ◌∷◌, ◌++◌, length, ltb}
use Rattle.std.proofs.Common.{arith, ap, length-append, ltb-true, ltb-false, lt-ltb, le-ltb}
use Rattle.model.specs.Decimal.{decimal_to, decimal}
use Rattle.theory.specs.Ranges.{pick_true, pick_false}

module _ (f n : ℕ) where
  pub one_digit : n < 10 → decimal_to (suc f) n ≡ (48 + n) ∷ []
  unfolding decimal_to
  one_digit h = pick_true (ltb n 10) ((48 + n) ∷ []) (decimal_to f (n / 10) ++ ((48 + n % 10) ∷ [])) (lt-ltb n 10 h)

  pub more_digits : 10 ≤ n → decimal_to (suc f) n ≡ decimal_to f (n / 10) ++ ((48 + n % 10) ∷ [])
  unfolding decimal_to
  more_digits h = pick_false (ltb n 10) ((48 + n) ∷ []) (decimal_to f (n / 10) ++ ((48 + n % 10) ∷ [])) (le-ltb n 10 h)

pub no_digits : (n : ℕ) → decimal_to 0 n ≡ []
unfolding decimal_to
no_digits n = refl

pub digits_most : (f n : ℕ) → length (decimal_to f n) ≤ f
digits_most zero n = omega (arith, ap length (no_digits n))
digits_most (suc f) n = go (ltb n 10) refl (digits_most f (n / 10))
  where
    go : (b : Bool) → ltb n 10 ≡ b → length (decimal_to f (n / 10)) ≤ f → length (decimal_to (suc f) n) ≤ suc f
    go true e ih = omega (arith, ap length (one_digit f n (ltb-true n 10 e)))
    go false e ih =
        omega (
          arith,
          ap length (more_digits f n (ltb-false n 10 e)),
          length-append (decimal_to f (n / 10)) ((48 + n % 10) ∷ []),
        )

pub decimal_length : (n : ℕ) → length (decimal n) ≤ 10
unfolding decimal
decimal_length n = digits_most 10 n
