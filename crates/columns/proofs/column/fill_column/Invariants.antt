use Rattle.std.proofs.Common.{◌+◌, ◌*◌}
use Rattle.model.specs.Table.{slots}
use Rattle.columns.proofs.ColumnRuns.{Stretch, Joins, Taking}
use Rattle.columns.proofs.column.fill_column.Given as goal

abbrev pub invariant-loop-sum : goal.invariant-loop-sum
invariant-loop-sum l =
    Taking l.limit l.start l.child l.nodes l.fn.words l.words l.sums l.next l.sum l.taken l.gain l.left

abbrev pub decreases-loop-sum : goal.decreases-loop-sum
decreases-loop-sum l = l.gain * slots + l.left

abbrev pub invariant-stretch : goal.invariant-stretch
invariant-stretch l = Stretch l.limit l.start l.child l.nodes l.fn.words (Joins l.limit) l.words l.sums l.next

abbrev pub decreases-stretch : goal.decreases-stretch
decreases-stretch l = l.next
