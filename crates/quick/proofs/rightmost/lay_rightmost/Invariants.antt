use Rattle.quick.specs.Rightmost.{Settled}
use Rattle.quick.proofs.rightmost.lay_rightmost.Given as goal

abbrev pub invariant-loop-v : goal.invariant-loop-v
invariant-loop-v l = Settled l.tree.table.now l.nodes l.marks l.v
