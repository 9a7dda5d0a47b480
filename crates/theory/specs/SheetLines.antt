-- The lines of leader sheets: every line has 81 bytes, every sheet 60 lines, and a number that fits its field is what
-- the field tells. What a line is, by its place; sheets of pages of which the same is told are the same.
-- Proves length-field, field_one, field_more, value_field; length-line_with, length_line_at, length-sheet_at,
-- length_sheets; first_line_lem, last_line_lem, page_line_lem, blank_line; sheets_same. Assumes nothing.
use Prim.Native.Nat.{ℕ, zero, suc, ◌+◌, ◌-◌, ◌*◌, ◌/◌, ◌%◌, ◌^◌, ◌≤◌, ◌<◌}
use Rattle.std.proofs.Common.{arith, pow-suc, ◌∙◌, length-append}
use Rattle.std.proofs.Math.Nat.{pow-zero}
use Rattle.std.specs.Prelude.{Bool, ◌≡◌, eqb, ltb, leb}
use Rattle.std.proofs.Math.Bool.{true, false}
use Rattle.std.proofs.Math.Path.{refl, sym, ap}
use mathlib.Core.List.{List, [], ◌∷◌, ◌++◌, append_assoc}
use Rattle.std.proofs.Math.ListN.{length}
use Rattle.std.proofs.lemmas.List.{length-replicate}
use borrow.Author.Tests.{ne_eqb, eqb-false, ltb-true, ltb-false, leb-true, le-leb, lt-leb}
use Rattle.model.specs.Basics.{pick}
use Rattle.model.specs.Decimal.{decimal_to, bytes}
use Rattle.model.specs.Sheets.{columns, line_length, sheet_lines, sheet_pages, sheet_bytes, sheet_count, blank, blanks}
use Rattle.model.specs.Sheets.{field, line_with, first_line, last_line, PageFigures, per_cent, line_for_page, line_at}
use Rattle.model.specs.Sheets.{sheet_at, sheets_by, value_from}
use Rattle.theory.specs.Ranges.{Upto, pick_true, pick_false, pick_both, list_to_cong}
use Rattle.theory.specs.Decimals.{no_digits, one_digit, more_digits, digits_most}
use Rattle.theory.specs.Put.{length_records_to}

-- ---- Fields

length-blanks : (n : ℕ) → length (blanks n) ≡ n
length-blanks n = length-replicate n blank

pub length-field : (width n : ℕ) → length (field width n) ≡ width
unfolding field
length-field width n =
    omega (
      arith,
      length-append (blanks (width - length (decimal_to width n))) (decimal_to width n),
      length-blanks (width - length (decimal_to width n)),
      digits_most width n,
    )

-- the last digit in the last column, and before it blanks, or the number without its last digit
pub field_one : (width n : ℕ) → n < 10 → field (suc width) n ≡ blanks width ++ ((48 + n) ∷ [])
unfolding field
field_one width n h =
    let less : suc width - 1 ≡ width = omega arith in rw (one_digit width n h, less) refl

pub field_more : (width n : ℕ) → 10 ≤ n → field (suc width) n ≡ field width (n / 10) ++ ((48 + n % 10) ∷ [])
unfolding field
field_more width n h =
    let ds : List ℕ = decimal_to width (n / 10) in
    let less : suc width - length (ds ++ ((48 + n % 10) ∷ [])) ≡ width - length ds =
    omega (arith, length-append ds ((48 + n % 10) ∷ [])) in
    rw (more_digits width n h, less) (sym (append_assoc (blanks (width - length ds)) ds ((48 + n % 10) ∷ [])))

-- a digit more
value_snoc : (n : ℕ) (xs : List ℕ) (d : ℕ)
    → value_from n (xs ++ ((48 + d) ∷ [])) ≡ 10 * value_from n xs + d
unfolding value_from
value_snoc n [] d =
    pick_false (eqb (48 + d) blank) n (10 * n + (48 + d - 48)) (ne_eqb (48 + d) blank (λ e. omega arith)) ∙ omega arith
value_snoc n (x ∷ xs) d = value_snoc (pick (eqb x blank) n (10 * n + (x - 48))) xs d

-- digits enough tell the number
value_digits : (f n : ℕ) → n < 10 ^ f → value_from 0 (decimal_to f n) ≡ n
unfolding value_from
value_digits zero n h = ap (value_from 0) (no_digits n) ∙ omega (arith, h, pow-zero 10)
value_digits (suc f) n h = go (ltb n 10) refl (value_digits f (n / 10))
  where
    go : (b : Bool) → ltb n 10 ≡ b → (n / 10 < 10 ^ f → value_from 0 (decimal_to f (n / 10)) ≡ n / 10)
        → value_from 0 (decimal_to (suc f) n) ≡ n
    go true e ih =
        ap (value_from 0) (one_digit f n (ltb-true n 10 e)) ∙ value_snoc 0 [] n ∙ omega arith
    go false e ih =
        ap (value_from 0) (more_digits f n (ltb-false n 10 e))
        ∙ value_snoc 0 (decimal_to f (n / 10)) (n % 10)
        ∙ omega (arith, ih (omega (arith, h, pow-suc 10 f)))

value_blanks : (k : ℕ) (ds : List ℕ) → value_from 0 (blanks k ++ ds) ≡ value_from 0 ds
unfolding value_from pick
value_blanks zero ds = refl
value_blanks (suc k) ds = value_blanks k ds

-- a number that fits its field is what the field tells
pub value_field : (width n : ℕ) → n < 10 ^ width → value_from 0 (field width n) ≡ n
unfolding field
value_field width n h =
    value_blanks (width - length (decimal_to width n)) (decimal_to width n) ∙ value_digits width n h

-- ---- Lines

pub length-line_with : (text : List ℕ) → length text ≤ columns → length (line_with text) ≡ line_length
unfolding line_with
length-line_with text short =
    let rest : ℕ = columns - length text in
    omega (
      arith,
      length-append (text ++ blanks rest) (bytes "\n"),
      length-append text (blanks rest),
      length-blanks rest,
    )

-- a text and a field after it
pub length_more : (text : List ℕ) (width n k : ℕ) → length text ≡ k → length (text ++ field width n) ≡ k + width
length_more text width n k long = omega (arith, length-append text (field width n), length-field width n)

length-first_line : (pages : ℕ) → length (first_line pages) ≡ line_length
unfolding first_line
length-first_line pages =
    length-line_with _ (omega (arith, length_more (bytes "PAGES" ++ blanks 1) 6 pages 6 refl))

length-last_line : (s : ℕ) → length (last_line s) ≡ line_length
unfolding last_line
length-last_line s = length-line_with _ (omega (arith, length-field 6 s))

length-line_for_page : (limit p : ℕ) (x : PageFigures) → length (line_for_page limit p x) ≡ line_length
unfolding line_for_page
length-line_for_page limit p x =
    let two = length_more (field 6 p) 6 x.first 6 (length-field 6 p) in
    let three = length_more (field 6 p ++ field 6 x.first) 6 x.last 12 two in
    let four = length_more (field 6 p ++ field 6 x.first ++ field 6 x.last) 6 x.weight 18 three in
    length-line_with _
    (omega (
      arith,
      length_more (field 6 p ++ field 6 x.first ++ field 6 x.last ++ field 6 x.weight) 4
          (per_cent x.weight limit) 24 four,
    ))

-- ---- Sheets

module _ (pages limit : ℕ) (page : ℕ → PageFigures) where
  pub length_line_at : (s l : ℕ) → length (line_at pages limit page s l) ≡ line_length
  unfolding line_at
  length_line_at s l =
      let p : ℕ = sheet_pages * (s - 1) + (l - 1) in
      pick_both (λ (x : List ℕ). length x ≡ line_length) (eqb l 1) _ _ (length-first_line pages)
      (pick_both (λ (x : List ℕ). length x ≡ line_length) (eqb l sheet_lines) _ _ (length-last_line s)
      (pick_both (λ (x : List ℕ). length x ≡ line_length) (leb p pages) _ _ (length-line_for_page limit p (page p))
      (length-line_with [] (omega arith))))

  pub length-sheet_at : (s : ℕ) → length (sheet_at pages limit page s) ≡ sheet_bytes
  unfolding sheet_at
  length-sheet_at s = length_records_to (line_at pages limit page s) line_length (length_line_at s) sheet_lines

  pub length_sheets : length (sheets_by pages limit page) ≡ sheet_bytes * sheet_count pages
  unfolding sheets_by
  length_sheets = length_records_to (sheet_at pages limit page) sheet_bytes length-sheet_at (sheet_count pages)

  -- ---- A line by its place

  pub first_line_lem : (s : ℕ) → line_at pages limit page s 1 ≡ first_line pages
  unfolding line_at
  first_line_lem s = pick_true (eqb 1 1) _ _ refl

  pub last_line_lem : (s : ℕ) → line_at pages limit page s sheet_lines ≡ last_line s
  unfolding line_at
  last_line_lem s = pick_false (eqb sheet_lines 1) _ _ refl ∙ pick_true (eqb sheet_lines sheet_lines) _ _ refl

  module _ (s l p : ℕ) (between : (l ≡ 1 → ⊥) × (l ≡ sheet_lines → ⊥)) (at : p ≡ sheet_pages * (s - 1) + (l - 1)) where
    among : (b : Bool) → leb p pages ≡ b
        → line_at pages limit page s l ≡ pick b (line_for_page limit p (page p)) (line_with [])
    unfolding line_at
    among b e =
        pick_false (eqb l 1) _ _ (ne_eqb l 1 between.0)
        ∙ pick_false (eqb l sheet_lines) _ _ (ne_eqb l sheet_lines between.1)
        ∙ rw (← at, e) refl

    pub page_line_lem : p ≤ pages → line_at pages limit page s l ≡ line_for_page limit p (page p)
    unfolding pick
    page_line_lem h = among true (le-leb p pages h)

    pub blank_line : pages < p → line_at pages limit page s l ≡ line_with []
    unfolding pick
    blank_line h = among false (lt-leb p pages h)

-- the same told of every page
module _ (pages limit : ℕ) (x y : ℕ → PageFigures) (same : Upto pages (λ p. x p ≡ y p)) where
  told_same : (p : ℕ) (b : Bool) → leb p pages ≡ b → 1 ≤ p
      → pick (leb p pages) (line_for_page limit p (x p)) (line_with [])
      ≡ pick (leb p pages) (line_for_page limit p (y p)) (line_with [])
  told_same p true e low =
      ap (λ (z : PageFigures). pick (leb p pages) (line_for_page limit p z) (line_with []))
      (same p low (leb-true p pages e))
  told_same p false e low = pick_false (leb p pages) _ _ e ∙ sym (pick_false (leb p pages) _ _ e)

  line_same : (s l : ℕ) (b : Bool) → eqb l 1 ≡ b → 1 ≤ l → line_at pages limit x s l ≡ line_at pages limit y s l
  unfolding line_at
  line_same s l true e low = pick_true (eqb l 1) _ _ e ∙ sym (pick_true (eqb l 1) _ _ e)
  line_same s l false e low =
      ap (λ (z : List ℕ). pick (eqb l 1) (first_line pages) (pick (eqb l sheet_lines) (last_line s) z))
      (told_same (sheet_pages * (s - 1) + (l - 1)) _ refl (omega (arith, eqb-false l 1 e)))

  pub sheets_same : sheets_by pages limit x ≡ sheets_by pages limit y
  unfolding sheets_by sheet_at
  sheets_same =
      list_to_cong (sheet_count pages) (sheet_at pages limit x) (sheet_at pages limit y)
      (λ s low high.
      list_to_cong sheet_lines (line_at pages limit x s) (line_at pages limit y s)
      (λ l first last. line_same s l (eqb l 1) refl first))
