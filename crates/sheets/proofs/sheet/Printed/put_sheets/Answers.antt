use Rattle.std.proofs.Common.{arith, refl}
use Rattle.model.specs.Sheets.{sheet_bytes, sheets_by}
use Rattle.theory.specs.SheetLines.{length-sheet_at}
use Rattle.sheets.specs.Lines.{page_in}
use Rattle.sheets.proofs.Placed.{placed_start, placed_turn, placed_at, placed_whole}
use Rattle.sheets.proofs.sheet.Printed.put_sheets.Goals as goal

pub loop-s-init : goal.loop-s-init
loop-s-init c = record { high = omega arith; placed = placed_start _ _ 0 }

pub put_sheet-at-requires : goal.put_sheet-at-requires
put_sheet-at-requires c =
    let l = c.loop-s in
    let p = c.args.self.now in
    let wide = length-sheet_at p.layout.now.pages p.limit (page_in p.layout.now) in
    let count = c.sheet_count-sheets.ensures in (
      omega arith,
      omega arith,
      omega (arith, placed_at sheet_bytes wide l.invariant.placed, l.invariant.placed.long, count),
    )

pub loop-s-preserved : goal.loop-s-preserved
loop-s-preserved c =
    record {
      high = omega arith;
      placed = placed_turn c.loop-s.invariant.placed c.put_sheet-at.ensures refl c.put_sheet-at.auto.out;
    }

-- no sheet
pub returns : goal.returns
unfolding sheets_by
returns c =
    placed_whole sheet_bytes _ (length-sheet_at _ _ _) c.loop-s.invariant.placed
    (omega (arith, c.sheet_count-sheets.ensures)) c.requires

-- after the last one
pub returns-2 : goal.returns-2
unfolding sheets_by
returns-2 c =
    placed_whole sheet_bytes _ (length-sheet_at _ _ _)
    (placed_turn c.loop-s.invariant.placed c.put_sheet-at.ensures refl c.put_sheet-at.auto.out)
    (omega (arith, c.sheet_count-sheets.ensures)) c.requires
