-- Document 02, 'The plan on a leader sheet': every byte of the sheets of a plan, a line as a function of its page; and
-- what stands in the columns of a sheet.
use Rattle.std.specs.Prelude.{ℕ, ◌+◌, ◌-◌, ◌*◌, ◌/◌, ◌%◌, List, [], ◌∷◌, ◌++◌, length, replicate, take, drop, eqb, leb}
use Rattle.model.specs.Basics.{pick, list_to}
use Rattle.model.specs.Decimal.{decimal_to, bytes}
use Rattle.model.specs.Table.{limit_of}
use Rattle.model.specs.Plan.{page_count, page_weight}
use Rattle.model.specs.Runs.{page_run}

-- ---- The measures

-- a line: 80 columns and a newline byte
abbrev pub columns : ℕ
columns = 80

abbrev pub line_length : ℕ
line_length = columns + 1

-- a sheet: 60 lines, of which 2 to 59 have a page each
abbrev pub sheet_lines : ℕ
sheet_lines = 60

abbrev pub sheet_pages : ℕ
sheet_pages = sheet_lines - 2

abbrev pub sheet_bytes : ℕ
sheet_bytes = line_length * sheet_lines

-- the sheets that so many pages take
abbrev pub sheet_count : ℕ → ℕ
sheet_count pages = (pages + (sheet_pages - 1)) / sheet_pages

-- ---- Lines

abbrev pub blank : ℕ
blank = 32

abbrev pub blanks : ℕ → List ℕ
blanks n = replicate n blank

-- a number right-aligned in so many columns
unfoldable pub field : ℕ → ℕ → List ℕ
field width n = blanks (width - length (decimal_to width n)) ++ decimal_to width n

-- the line that starts with a text: everything else is blanks
unfoldable pub line_with : List ℕ → List ℕ
line_with text = text ++ blanks (columns - length text) ++ bytes "\n"

-- line 1 of every sheet: PAGES in columns 1 to 5, the plan's page count in columns 7 to 12
unfoldable pub first_line : ℕ → List ℕ
first_line pages = line_with (bytes "PAGES" ++ blanks 1 ++ field 6 pages)

-- line 60: the sheet's number
unfoldable pub last_line : ℕ → List ℕ
last_line s = line_with (field 6 s)

-- what a line tells of a page: its first node, the last sibling of its run, and its weight
pub record PageFigures : Type 0 where
  pub first : ℕ
  pub last : ℕ
  pub weight : ℕ

-- the whole per cent of the limit, rounded down
abbrev pub per_cent : ℕ → ℕ → ℕ
per_cent weight limit = 100 * weight / limit

-- the line of page p: number, first node, last sibling and weight in fields of six columns, then the per cent in four
unfoldable pub line_for_page : ℕ → ℕ → PageFigures → List ℕ
line_for_page limit p x =
    line_with (field 6 p ++ field 6 x.first ++ field 6 x.last ++ field 6 x.weight
    ++ field 4 (per_cent x.weight limit))

-- ---- Sheets, from page count, limit and what is told of each page

-- line l of sheet s; a page line after the last page is blank
unfoldable pub line_at : ℕ → ℕ → (ℕ → PageFigures) → ℕ → ℕ → List ℕ
line_at pages limit page s l =
    let p : ℕ = sheet_pages * (s - 1) + (l - 1) in
    pick (eqb l 1) (first_line pages)
    (pick (eqb l sheet_lines) (last_line s) (pick (leb p pages) (line_for_page limit p (page p)) (line_with [])))

unfoldable pub sheet_at : ℕ → ℕ → (ℕ → PageFigures) → ℕ → List ℕ
sheet_at pages limit page s = list_to sheet_lines (line_at pages limit page s)

unfoldable pub sheets_by : ℕ → ℕ → (ℕ → PageFigures) → List ℕ
sheets_by pages limit page = list_to (sheet_count pages) (sheet_at pages limit page)

abbrev pub page_at : List ℕ → List ℕ → ℕ → PageFigures
page_at t m p = record { first = (page_run t m p).first; last = (page_run t m p).last; weight = page_weight t m p }

-- the sheets of a tree and a plan
unfoldable pub sheets_of : List ℕ → List ℕ → List ℕ
sheets_of t m = sheets_by (page_count t m) (limit_of t) (page_at t m)

-- ---- Reading by columns

-- the number that a field tells, after what stands before it; a blank is no digit
unfoldable pub value_from : ℕ → List ℕ → ℕ
value_from n [] = n
value_from n (b ∷ bs) = value_from (pick (eqb b blank) n (10 * n + (b - 48))) bs

-- the number in so many columns from column c on, in line l of sheet s
unfoldable pub number_in : List ℕ → ℕ → ℕ → ℕ → ℕ → ℕ
number_in a s l c width =
    value_from 0 (take width (drop (sheet_bytes * (s - 1) + (line_length * (l - 1) + (c - 1))) a))

-- the sheet of page p, and its line there
abbrev pub sheet_number : ℕ → ℕ
sheet_number p = (p - 1) / sheet_pages + 1

abbrev pub line_number : ℕ → ℕ
line_number p = (p - 1) % sheet_pages + 2
