use Rattle.greedy.proofs.Cut.{CutSoFar}
use Rattle.greedy.proofs.single.cut_children.Given as goal

abbrev pub invariant-loop-sum : goal.invariant-loop-sum
invariant-loop-sum l = CutSoFar l.tree.table.now l.v l.room l.fn.scratch l.fn.marks l.scratch l.marks l.sum

abbrev pub decreases-loop-sum : goal.decreases-loop-sum
decreases-loop-sum l = l.sum
