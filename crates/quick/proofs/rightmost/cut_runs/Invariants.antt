use Rattle.quick.specs.Rightmost.{last_kid}
use Rattle.quick.proofs.RightmostRuns.{Cutting}
use Rattle.quick.proofs.rightmost.cut_runs.Given as goal

abbrev pub invariant-loop-child : goal.invariant-loop-child
invariant-loop-child l =
    let t = l.tree.table.now in
    Cutting t l.nodes.rests l.fn.marks l.v (last_kid t l.nodes.lasts l.v) l.marks l.kept l.left l.run l.child

abbrev pub decreases-loop-child : goal.decreases-loop-child
decreases-loop-child l = l.child
