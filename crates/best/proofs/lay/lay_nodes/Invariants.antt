use Rattle.best.proofs.LayAll.{Laying}
use Rattle.best.proofs.lay.lay_nodes.Given as goal

abbrev pub invariant-loop-v : goal.invariant-loop-v
invariant-loop-v l = Laying l.table l.nodes l.marks l.seconds l.v
