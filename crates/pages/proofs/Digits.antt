-- The fewest digits that hold a number, as the kit prints them, are the number in decimal. Assumes nothing.
use Prim.Native.Nat.{ℕ, zero, suc, ◌+◌, ◌-◌, ◌*◌, ◌/◌, ◌%◌, ◌^◌, ◌≤◌, ◌<◌}
use native.Mathlib.Omega.{arith}
use native.Mathlib.Nat.{pow-zero, pow-suc, one-le-pow, mod-eq_of_lt}
use mathlib.Core.Path.{◌≡◌, sym, ◌∙◌, ap, ap₂}
use mathlib.Core.Bool.{cond}
use mathlib.Core.List.{List, [], ◌∷◌, ◌++◌, append_assoc}
use lib.ListN.{length, take}
use borrow.Author.Tests.{lt-ltb}
use Rattle.io.specs.Digits.{hex_digit_ascii, last_digits, IsDigitCount}
use Rattle.model.specs.Decimal.{decimal_to, decimal}
use Rattle.theory.specs.Decimals.{one_digit, more_digits, decimal_length}
use Rattle.pages.specs.Text.{item}

digit_is : (d : ℕ) → d < 10 → hex_digit_ascii d ≡ 48 + d
digit_is d h = ap (λ b. cond b (48 + d) (87 + d)) (lt-ltb d 10 h)

ten : 10 ^ 1 ≡ 10
ten = pow-suc 10 0 ∙ ap (λ x. x * 10) (pow-zero 10)

few_big : (n j : ℕ) → IsDigitCount 10 1 n (suc (suc j)) → 10 ^ suc j ≤ n
few_big n j few = omega (arith, few.2 (omega arith), ap (λ i. 10 ^ i) (less j))
  where
    less : (i : ℕ) → suc (suc i) - 1 ≡ suc i
    less i = omega arith

digits_decimal : (f n k : ℕ) → n < 10 ^ suc f → IsDigitCount 10 1 n k → last_digits 10 k n ≡ decimal_to (suc f) n
digits_decimal f n zero fits few = absurd (omega (arith, few.0))
digits_decimal f n (suc zero) fits few =
    let small : n < 10 = omega (arith, few.1, ten) in
    ap (λ d. d ∷ []) (digit_is (n % 10) (omega arith) ∙ ap (λ d. 48 + d) (mod-eq_of_lt small))
    ∙ sym (one_digit f n small)
digits_decimal zero n (suc (suc j)) fits few =
    absurd (omega (arith, fits, ten, few_big n j few, pow-suc 10 j, one-le-pow j 10 (omega arith)))
digits_decimal (suc f) n (suc (suc j)) fits few =
    let big : 10 ^ suc j ≤ n = few_big n j few in
    let up : 10 ^ suc j ≡ 10 ^ j * 10 = pow-suc 10 j in
    let fits' : n / 10 < 10 ^ suc f = omega (arith, fits, pow-suc 10 (suc f)) in
    let same : 10 ^ (suc j - 1) ≡ 10 ^ j = ap (λ i. 10 ^ i) (omega arith) in
    let few' : IsDigitCount 10 1 (n / 10) (suc j) =
    (omega arith, omega (arith, few.1, pow-suc 10 (suc j)), λ h. omega arith) in
    ap₂ (λ (l : List ℕ) (d : ℕ). l ++ (d ∷ [])) (digits_decimal f (n / 10) (suc j) fits' few')
    (digit_is (n % 10) (omega arith))
    ∙ sym (more_digits (suc f) n (omega (arith, one-le-pow j 10 (omega arith))))

-- what the kit put at the start of its array
module _ (n k : ℕ) (out : List ℕ) (low : n < 4294967296) (few : IsDigitCount 10 1 n k) (is : take k out ≡ last_digits 10 k n) where
  number_text : take k out ≡ decimal n
  unfolding decimal
  number_text = is ∙ digits_decimal 9 n k (omega arith) few

  pub number_long : k ≡ length (take k out) → k ≤ 10
  number_long long = omega (arith, ap length number_text, decimal_length n)

  -- a word and the number after it
  pub item_text : (word : List ℕ) → word ++ take k out ≡ item word n
  unfolding item
  item_text word = ap (λ (l : List ℕ). word ++ l) number_text

-- what was put comes before what is put next
pub ruleset putting = (append_assoc)
