-- Leader sheets read by their columns: the line of a page tells the page, the first line of a sheet the page count, and
-- its last line the sheet's number, where each number fits its field.
-- Defines Has. Proves sheet-pages, sheet_numbers. Assumes nothing.
use Rattle.std.specs.Prelude.{ℕ, ◌+◌, ◌-◌, ◌*◌, ◌^◌, ◌≤◌, ◌<◌, ◌≡◌, refl, List, ◌++◌, length, get_or, drop}
use native.Mathlib.Omega.{arith}
use Rattle.std.proofs.Common.{mul-le-mul_left, sym, ◌∙◌, length-append, length-drop, length-take-le, take_all, drop_at, get_or-take, get_or-drop, ext_get_or}
use Rattle.std.proofs.Math.Path.{ap}
use Rattle.std.proofs.Math.ListN.{take}
use Rattle.std.proofs.lemmas.List.{take-append-le, drop-append-le}
use Rattle.model.specs.Basics.{list_to}
use Rattle.model.specs.Decimal.{bytes}
use Rattle.model.specs.Sheets.{columns, line_length, sheet_lines, sheet_bytes, sheet_count, blanks, field}
use Rattle.model.specs.Sheets.{line_with, first_line, last_line, PageFigures, per_cent, line_for_page, line_at, sheet_at}
use Rattle.model.specs.Sheets.{sheets_by, value_from, number_in, sheet_number, line_number}
use Rattle.theory.specs.Put.{length_records_to, get_d_records_to}
use Rattle.theory.specs.SheetLines.{length-field, value_field, length_more, length_line_at, length-sheet_at}
use Rattle.theory.specs.SheetLines.{first_line_lem, last_line_lem, page_line_lem}

-- ---- A part of one of many records

module _ (rec : ℕ → List ℕ) (width : ℕ) (wide : (v : ℕ) → length (rec v) ≡ width) where
  part_record : (n v f w : ℕ) → 1 ≤ v → v ≤ n → f + w ≤ width
      → take w (drop (width * (v - 1) + f) (list_to n rec)) ≡ take w (drop f (rec v))
  part_record n v f w low high fits =
      ext_get_or 0 (take w (drop at (list_to n rec))) (take w (drop f (rec v))) (all ∙ sym one)
      (λ i h.
      let less : i < w = omega (arith, all) in
      get_or-take w (drop at (list_to n rec)) i 0 less
      ∙ get_or-drop at (list_to n rec) i 0
      ∙ ap (λ j. get_or (list_to n rec) j 0) (place i)
      ∙ get_d_records_to rec width wide n v (f + i) low high (omega arith)
      ∙ sym (get_or-take w (drop f (rec v)) i 0 less ∙ get_or-drop f (rec v) i 0))
    where
      at : ℕ
      at = width * (v - 1) + f

      place : (i : ℕ) → at + i ≡ width * (v - 1) + (f + i)
      place i = omega arith

      within : width * (v - 1) + width ≤ width * n
      within =
          let up : v - 1 + 1 ≤ n = omega arith in omega (arith, mul-le-mul_left width up)

      all : length (take w (drop at (list_to n rec))) ≡ w
      all =
          length-take-le w (drop at (list_to n rec))
          (omega (arith, length-drop at (list_to n rec), length_records_to rec width wide n, within))

      one : length (take w (drop f (rec v))) ≡ w
      one = length-take-le w (drop f (rec v)) (omega (arith, length-drop f (rec v), wide v))

-- ---- Fields of a text

-- w columns after k have the number n, right-aligned
record Has (text : List ℕ) (k w n : ℕ) : Type 0 where
  within : k + w ≤ length text
  stands : take w (drop k text) ≡ field w n

has_first : (w n : ℕ) → Has (field w n) 0 w n
has_first w n =
    record {
      within = omega (arith, length-field w n);
      stands = take_all w (field w n) (omega (arith, length-field w n));
    }

has_last : (text : List ℕ) (k w n : ℕ) → length text ≡ k → Has (text ++ field w n) k w n
has_last text k w n long =
    record {
      within = omega (arith, length_more text w n k long);
      stands =
          ap (take w) (drop_at text (field w n) k long) ∙ take_all w (field w n) (omega (arith, length-field w n));
    }

-- what is put after it leaves it
has_more : {text : List ℕ} {k w n : ℕ} → Has text k w n → (more : List ℕ) → Has (text ++ more) k w n
has_more {text} {k} {w} h more =
    record {
      within = omega (arith, h.within, length-append text more);
      stands =
          ap (take w) (drop-append-le k text more (omega (arith, h.within)))
          ∙ take-append-le w (drop k text) more (omega (arith, h.within, length-drop k text))
          ∙ h.stands;
    }

line_has : {text : List ℕ} {k w n : ℕ} → Has text k w n → Has (line_with text) k w n
unfolding line_with
line_has {text} h = has_more (has_more h (blanks (columns - length text))) (bytes "\n")

-- ---- Sheets

module _ (pages limit : ℕ) (page : ℕ → PageFigures) where
  -- a number in a line of a sheet
  number_at : (s l k w n : ℕ) → 1 ≤ s → s ≤ sheet_count pages → 1 ≤ l → l ≤ sheet_lines → k + w ≤ line_length
      → n < 10 ^ w → Has (line_at pages limit page s l) k w n
      → number_in (sheets_by pages limit page) s l (k + 1) w ≡ n
  unfolding number_in sheets_by sheet_at
  number_at s l k w n low high first last fits small h =
      let back : k + 1 - 1 ≡ k = omega arith in
      ap (value_from 0)
      (ap (λ j. take w (drop (sheet_bytes * (s - 1) + (line_length * (l - 1) + j)) (sheets_by pages limit page))) back
      ∙ part_record (sheet_at pages limit page) sheet_bytes (length-sheet_at pages limit page) (sheet_count pages) s
      (line_length * (l - 1) + k) w low high (omega arith)
      ∙ part_record (line_at pages limit page s) line_length (length_line_at pages limit page s) sheet_lines l k w first
      last fits
      ∙ h.stands)
      ∙ value_field w n small

  -- the first line of a sheet tells the page count, and its last the sheet's number
  pub sheet_numbers : (s : ℕ) → 1 ≤ s → s ≤ sheet_count pages → pages < 10 ^ 6 → s < 10 ^ 6
      → (number_in (sheets_by pages limit page) s 1 7 6 ≡ pages)
      × (number_in (sheets_by pages limit page) s sheet_lines 1 6 ≡ s)
  unfolding first_line last_line
  sheet_numbers s low high few small = (
    number_at s 1 6 6 pages low high (omega arith) (omega arith) (omega arith) few
        (rw (first_line_lem pages limit page s) (line_has (has_last (bytes "PAGES" ++ blanks 1) 6 6 pages refl))),
    number_at s sheet_lines 0 6 s low high (omega arith) (omega arith) (omega arith) small
        (rw (last_line_lem pages limit page s) (line_has (has_first 6 s))),
  )

  -- the numbers of a page fit their fields
  pub record PageFits (p : ℕ) : Type 0 where
    pub number : p < 10 ^ 6
    pub first : (page p).first < 10 ^ 6
    pub last : (page p).last < 10 ^ 6
    pub weight : (page p).weight < 10 ^ 6
    pub share : per_cent (page p).weight limit < 10 ^ 4

  -- the line of a page tells it
  module _ (p : ℕ) (low : 1 ≤ p) (high : p ≤ pages) (fits : PageFits p) where
    abbrev x : PageFigures
    x = page p

    abbrev s : ℕ
    s = sheet_number p

    abbrev l : ℕ
    l = line_number p

    line : line_at pages limit page s l ≡ line_for_page limit p x
    line = page_line_lem pages limit page s l p ((λ e. omega arith), (λ e. omega arith)) (omega arith) high

    told : (k w n : ℕ) → k + w ≤ line_length → n < 10 ^ w → Has (line_for_page limit p x) k w n
        → number_in (sheets_by pages limit page) s l (k + 1) w ≡ n
    told k w n room small h =
        number_at s l k w n (omega arith) (omega arith) (omega arith) (omega arith) room small (rw line h)

    -- the text with two, three and four of its fields
    abbrev begun : List ℕ
    begun = field 6 p ++ field 6 x.first

    abbrev ended : List ℕ
    ended = begun ++ field 6 x.last

    abbrev weighed : List ℕ
    weighed = ended ++ field 6 x.weight

    two : length begun ≡ 12
    two = length_more (field 6 p) 6 x.first 6 (length-field 6 p)

    three : length ended ≡ 18
    three = length_more begun 6 x.last 12 two

    four : length weighed ≡ 24
    four = length_more ended 6 x.weight 18 three

    abbrev share : List ℕ
    share = field 4 (per_cent x.weight limit)

    pub tells_number : number_in (sheets_by pages limit page) (sheet_number p) (line_number p) 1 6 ≡ p
    unfolding line_for_page
    tells_number =
        let first = has_more (has_first 6 p) (field 6 x.first) in
        told 0 6 p (omega arith) fits.number
        (line_has (has_more (has_more (has_more first (field 6 x.last)) (field 6 x.weight)) share))

    pub tells_first : number_in (sheets_by pages limit page) (sheet_number p) (line_number p) 7 6 ≡ (page p).first
    unfolding line_for_page
    tells_first =
        let first = has_last (field 6 p) 6 6 x.first (length-field 6 p) in
        told 6 6 x.first (omega arith) fits.first
        (line_has (has_more (has_more (has_more first (field 6 x.last)) (field 6 x.weight)) share))

    pub tells_last : number_in (sheets_by pages limit page) (sheet_number p) (line_number p) 13 6 ≡ (page p).last
    unfolding line_for_page
    tells_last =
        told 12 6 x.last (omega arith) fits.last
        (line_has (has_more (has_more (has_last begun 12 6 x.last two) (field 6 x.weight)) share))

    pub tells_weight : number_in (sheets_by pages limit page) (sheet_number p) (line_number p) 19 6 ≡ (page p).weight
    unfolding line_for_page
    tells_weight =
        told 18 6 x.weight (omega arith) fits.weight
        (line_has (has_more (has_last ended 18 6 x.weight three) share))

    pub tells_share : number_in (sheets_by pages limit page) (sheet_number p) (line_number p) 25 4
        ≡ per_cent (page p).weight limit
    unfolding line_for_page
    tells_share =
        told 24 4 (per_cent x.weight limit) (omega arith) fits.share
        (line_has (has_last weighed 24 4 (per_cent x.weight limit) four))
