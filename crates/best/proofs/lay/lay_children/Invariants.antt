use Rattle.std.proofs.Common.{◌≤◌}
use Rattle.model.specs.Table.{node_count}
use Rattle.best.proofs.LayNode.{Walking}
use Rattle.best.proofs.lay.lay_children.Given as goal

-- the child is a node, or there is none
abbrev pub invariant-loop-child : goal.invariant-loop-child
invariant-loop-child l =
    (l.child ≤ node_count l.table)
    × Walking l.table l.v l.nodes l.fn.marks l.fn.seconds l.marks l.seconds l.start l.child

abbrev pub decreases-loop-child : goal.decreases-loop-child
decreases-loop-child l = l.child
