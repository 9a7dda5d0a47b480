use Rattle.std.proofs.Common.{◌+◌, ◌≤◌}
use Rattle.model.specs.Sheets.{sheet_at}
use Rattle.sheets.specs.Lines.{page_in}
use Rattle.sheets.proofs.Placed.{Placed}
use Rattle.sheets.proofs.sheet.Printed.put_sheets.Given as goal

abbrev pub invariant-loop-s : goal.invariant-loop-s
invariant-loop-s l =
    record {
      high : l.s ≤ l.sheets + 1;
      placed : Placed (sheet_at l.self.layout.now.pages l.self.limit (page_in l.self.layout.now)) l.fn.out 0 l.s l.out l.at;
    }
