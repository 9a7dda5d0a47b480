use Rattle.std.proofs.Common.{arith}
use Rattle.columns.proofs.ColumnSweeps.{relax_turn}
use Rattle.columns.proofs.column.relax.Goals as goal

pub loop-s-preserved : goal.loop-s-preserved
loop-s-preserved c =
    let turn = relax_turn _ _ _ _ _ _ _ c.requires.2 c.requires.3 (omega arith) _ _ c.loop-s.invariant in
    grind (arith, turn)
