use Rattle.sheets.proofs.Fields.{Begun}
use Rattle.sheets.proofs.line.put_field.Given as goal

abbrev pub invariant-loop-rest : goal.invariant-loop-rest
invariant-loop-rest l = Begun l.fn.line l.at l.width l.n l.out l.i l.rest

abbrev pub decreases-loop-rest : goal.decreases-loop-rest
decreases-loop-rest l = l.rest
