-- The loop over the digits of a number, from the last one on: those passed stand in the last columns of its field, and
-- blanks in those before. Defines Begun. Proves begun_start, begun_more, begun_turn, begun_end. Assumes nothing.
use Prim.Native.Nat.{ℕ, zero, suc, ◌+◌, ◌-◌, ◌/◌, ◌%◌, ◌^◌, ◌≤◌, ◌<◌}
use native.Mathlib.Omega.{arith}
use native.Mathlib.Nat.{pow-zero, pow-suc}
use mathlib.Core.Path.{◌≡◌, sym, ◌∙◌, ap}
use mathlib.Core.List.{List, [], ◌∷◌, ◌++◌, append_assoc, append-nil}
use lib.ListN.{length, set, length-append, length-replicate, replicate-append-replicate}
use lib.Seq.{set_at, append_snoc}
use Rattle.model.specs.Decimal.{bytes}
use Rattle.model.specs.Sheets.{columns, blank, blanks, field, line_with}
use Rattle.theory.specs.SheetLines.{length-field, field_one, field_more}
use Rattle.sheets.specs.Lines.{FieldPut}

-- what comes after a field that ends at column `end`
abbrev after : ℕ → List ℕ
after end = blanks (columns - end) ++ bytes "\n"

blanks_two : (a b c : ℕ) → a + b ≡ c → blanks c ≡ blanks a ++ blanks b
blanks_two a b c e = ap blanks (sym e) ∙ sym (replicate-append-replicate a b blank)

-- the digits before the last column that was put: column i is next, and `rest` is what is left of n
pub record Begun (line : List ℕ) (at width n : ℕ) (out : List ℕ) (i rest : ℕ) : Type 0 where
  pub low : at ≤ i
  pub high : i < at + width
  pub fits : rest < 10 ^ suc (i - at)
  pub digits : List ℕ
  pub same : field width n ≡ field (suc (i - at)) rest ++ digits
  pub put : (front : List ℕ) → length front ≡ at → line ≡ line_with front
      → out ≡ front ++ blanks (i - at) ++ blank ∷ (digits ++ after (at + width))

module _ (line : List ℕ) (at width n : ℕ) (room : at + width ≤ columns) where
  pub begun_start : 1 ≤ width → n < 10 ^ width → Begun line at width n line (at + width - 1) n
  unfolding line_with
  begun_start low small =
      let wide : suc (at + width - 1 - at) ≡ width = omega arith in
      record {
        low = omega arith;
        high = omega arith;
        fits = rw wide small;
        digits = [];
        same = rw wide (sym (append-nil (field width n)));
        put =
            λ front long is.
            let k : ℕ = at + width - 1 - at in
            let rest : ℕ = columns - (at + width) in
            is
            ∙ ap (λ (l : List ℕ). front ++ l ++ bytes "\n")
            (blanks_two k (suc rest) (columns - length front) (omega arith))
            ∙ ap (λ (l : List ℕ). l ++ bytes "\n") (sym (append_assoc front (blanks k) (blanks (suc rest))))
            ∙ append_assoc (front ++ blanks k) (blanks (suc rest)) (bytes "\n");
      }

  -- a store in column i
  stored : (out : List ℕ) (i rest d : ℕ) (b : Begun line at width n out i rest) (front : List ℕ) → length front ≡ at
      → line ≡ line_with front
      → set out i d ≡ front ++ blanks (i - at) ++ d ∷ (b.digits ++ after (at + width))
  stored out i rest d b front long is =
      ap (λ (l : List ℕ). set l i d) (b.put front long is)
      ∙ set_at (front ++ blanks (i - at)) blank (b.digits ++ after (at + width)) d i
      (omega (arith, length-append front (blanks (i - at)), length-replicate (i - at) blank, b.low))

  -- a number of two digits or more has a column left
  pub begun_more : {out : List ℕ} {i rest : ℕ} → Begun line at width n out i rest → 10 ≤ rest → at < i
  begun_more {i} {rest} b big = omega (arith, wider (i - at) b.fits)
    where
      wider : (k : ℕ) → rest < 10 ^ suc k → 1 ≤ k
      wider zero h = absurd (omega (arith, h, pow-suc 10 0, pow-zero 10))
      wider (suc k) h = omega arith

  pub begun_turn : (out : List ℕ) (i rest : ℕ) → Begun line at width n out i rest → 10 ≤ rest
      → Begun line at width n (set out i (48 + rest % 10)) (i - 1) (rest / 10)
  begun_turn out i rest b big =
      let k : ℕ = i - at in
      let d : ℕ = 48 + rest % 10 in
      let less : suc (i - 1 - at) ≡ k = omega (arith, begun_more b big) in
      record {
        low = omega (arith, begun_more b big);
        high = omega (arith, b.high);
        fits = rw less (omega (arith, b.fits, pow-suc 10 k));
        digits = d ∷ b.digits;
        same =
            b.same
            ∙ ap (λ (l : List ℕ). l ++ b.digits) (field_more k rest big)
            ∙ append_snoc (field k (rest / 10)) d b.digits
            ∙ ap (λ j. field j (rest / 10) ++ d ∷ b.digits) (sym less);
        put =
            λ front long is.
            stored out i rest d b front long is
            ∙ ap (λ (l : List ℕ). l ++ d ∷ (b.digits ++ after (at + width)))
            (ap (λ (l : List ℕ). front ++ l) (blanks_two (i - 1 - at) 1 k (omega (arith, less)))
            ∙ sym (append_assoc front (blanks (i - 1 - at)) (blank ∷ [])))
            ∙ append_snoc (front ++ blanks (i - 1 - at)) blank (d ∷ (b.digits ++ after (at + width)));
      }

  pub begun_end : (out : List ℕ) (i rest : ℕ) → Begun line at width n out i rest → rest < 10
      → FieldPut line at (field width n) (set out i (48 + rest))
  unfolding line_with
  begun_end out i rest b small front long is =
      let k : ℕ = i - at in
      let d : ℕ = 48 + rest in
      let tail : List ℕ = after (at + width) in
      let whole : field width n ≡ blanks k ++ d ∷ b.digits =
      b.same ∙ ap (λ (l : List ℕ). l ++ b.digits) (field_one k rest small) ∙ append_snoc (blanks k) d b.digits in
      let all : columns - length (front ++ field width n) ≡ columns - (at + width) =
      omega (arith, length-append front (field width n), length-field width n) in
      stored out i rest d b front long is
      ∙ append_assoc front (blanks k) (d ∷ (b.digits ++ tail))
      ∙ ap (λ (l : List ℕ). front ++ l) (sym (append_assoc (blanks k) (d ∷ b.digits) tail))
      ∙ ap (λ (l : List ℕ). front ++ (l ++ tail)) (sym whole)
      ∙ sym (append_assoc front (field width n) tail)
      ∙ sym (append_assoc (front ++ field width n) (blanks (columns - (at + width))) (bytes "\n"))
      ∙ ap (λ j. front ++ field width n ++ blanks j ++ bytes "\n") (sym all)
