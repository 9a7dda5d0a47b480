use Rattle.std.proofs.Common.{length, arith, ap}
use Rattle.model.specs.Sheets.{line_length, sheet_lines, sheet_at}
use Rattle.theory.specs.SheetLines.{length_line_at}
use Rattle.sheets.specs.Lines.{page_in}
use Rattle.sheets.proofs.Placed.{placed_start, placed_turn, placed_at, placed_end}
use Rattle.sheets.proofs.sheet.Printed.put_sheet.Goals as goal

pub loop-l-init : goal.loop-l-init
loop-l-init c = placed_start _ _ _

pub put_text-end-requires : goal.put_text-end-requires
put_text-end-requires c =
    let l = c.loop-l in
    let p = c.args.self.now in
    let wide = length_line_at p.layout.now.pages p.limit (page_in p.layout.now) c.args.sheet in
    omega (
      arith,
      ap length c.line_at-line.ensures,
      wide l.l,
      placed_at line_length wide l.invariant,
      l.invariant.long,
    )

pub loop-l-preserved : goal.loop-l-preserved
loop-l-preserved c =
    placed_turn c.loop-l.invariant c.put_text-end.ensures c.line_at-line.ensures c.put_text-end.auto.out

pub returns : goal.returns
unfolding sheet_at
returns c = placed_end sheet_lines c.loop-l.invariant (omega arith)
