use Rattle.std.proofs.Common.{List, ℕ, ◌++◌, refl, ap₂, drop}
use Rattle.model.specs.Decimal.{bytes}
use Rattle.model.specs.Sheets.{blanks, line_with, first_line}
use Rattle.sheets.proofs.line.first_line.Goals as goal

pub returns : goal.returns
unfolding first_line line_with
returns c =
    c.put_field.ensures (bytes "PAGES" ++ blanks 1) refl
    (ap₂ (λ (x l : List ℕ). x ++ drop 5 l) c.copy_from_slice.ensures.after c.blank_line-line.ensures)
