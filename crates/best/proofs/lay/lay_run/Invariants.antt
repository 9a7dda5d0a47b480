use Rattle.std.proofs.Common.{◌≤◌, length}
use Rattle.best.proofs.LayMarking.{Marking}
use Rattle.best.proofs.lay.lay_run.Given as goal

-- the member to be marked is a node
abbrev pub invariant-loop-left : goal.invariant-loop-left
invariant-loop-left l =
    (l.next ≤ length l.fn.marks)
    × Marking l.nodes l.fn.child l.fn.len l.level.gain l.level.times l.fn.marks l.fn.seconds l.marks l.seconds l.before
    l.left l.next
