-- What the contracts of the lines cite: a field put after a text, and the pages of a layout.
-- Defines FieldPut, page_in. Assumes nothing.
use Rattle.std.specs.Prelude.{ℕ, ◌≡◌, List, ◌++◌, length, get_or}
use Rattle.model.specs.Sheets.{line_with, PageFigures}
use Rattle.layout.specs.declared.Layout.{Layout}

-- a line of a text of so many columns is now that of the text with the field after it
abbrev pub FieldPut : List ℕ → ℕ → List ℕ → List ℕ → Type 0
FieldPut line at text r = (front : List ℕ) → length front ≡ at → line ≡ line_with front → r ≡ line_with (front ++ text)

-- page p, from its first nodes, last siblings and weights by page
abbrev pub page_in : Layout → ℕ → PageFigures
page_in l p = record { first = get_or l.firsts p 0; last = get_or l.lasts p 0; weight = get_or l.weights p 0 }
