use Rattle.greedy.proofs.TwoWay.{LinksMarked}
use Rattle.greedy.proofs.pair.lay_marks.Given as goal

abbrev pub invariant-loop-v : goal.invariant-loop-v
invariant-loop-v l = LinksMarked l.kept.tree.table.now l.marks l.v
