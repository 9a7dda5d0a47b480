use Rattle.greedy.specs.PairMarks.{Rests}
use Rattle.greedy.proofs.pair.weigh_nodes.Given as goal

abbrev pub invariant-loop-v : goal.invariant-loop-v
invariant-loop-v l = Rests l.tree.table.now l.scratch l.v
