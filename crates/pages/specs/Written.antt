-- What stands in the lines of a report. Defines written. Assumes nothing.
use Rattle.std.specs.Prelude.{ℕ, List, take}
use Rattle.pages.specs.declared.lines.Lines.{Lines}

abbrev pub written : Lines → List ℕ
written l = take l.used l.bytes
