use Rattle.std.proofs.Common.{◌-◌}
use Rattle.quick.proofs.DepthTurns.{SeenTo}
use Rattle.quick.proofs.depth_first.lay_depth_first.Given as goal

abbrev pub invariant-loop-v : goal.invariant-loop-v
invariant-loop-v l = SeenTo l.tree.table.now (l.v - 1) l.nodes l.page.number l.page.weight l.marks
