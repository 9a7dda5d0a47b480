use Rattle.std.proofs.Common.{arith, inl, inr}
use Rattle.columns.proofs.ColumnSweeps.{stay_turn}
use Rattle.columns.proofs.column.stay.Goals as goal
use Rattle.columns.proofs.column.stay.Goals.{then-s-rest, else-s-rest}

pub loop-s-preserved : goal.loop-s-preserved
loop-s-preserved c =
    stay_turn _ _ _ _ _ _ _ c.requires.3 c.requires.4 (omega arith) _ _ c.loop-s.invariant
    (elim c.if-s-rest.branch [
      | then-s-rest w ↦ inl (w.if-s-rest.true, w.word-is)
      | else-s-rest w ↦ inr (w.if-s-rest.false, w.word-is)
    ])
