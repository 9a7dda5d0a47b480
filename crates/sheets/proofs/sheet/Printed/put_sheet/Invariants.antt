use Rattle.model.specs.Sheets.{line_at}
use Rattle.sheets.specs.Lines.{page_in}
use Rattle.sheets.proofs.Placed.{Placed}
use Rattle.sheets.proofs.sheet.Printed.put_sheet.Given as goal

abbrev pub invariant-loop-l : goal.invariant-loop-l
invariant-loop-l l =
    Placed (line_at l.self.layout.now.pages l.self.limit (page_in l.self.layout.now) l.sheet) l.fn.out l.at l.l l.out l.end
