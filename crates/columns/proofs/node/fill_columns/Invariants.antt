use Rattle.std.proofs.Common.{◌-◌}
use Rattle.model.specs.Table.{node_count}
use Rattle.columns.proofs.NodeColumns.{Filling}
use Rattle.columns.proofs.node.fill_columns.Given as goal

abbrev pub invariant-loop-child : goal.invariant-loop-child
invariant-loop-child l = Filling l.table l.nodes l.v l.last l.child l.initial.words l.words

abbrev pub decreases-loop-child : goal.decreases-loop-child
decreases-loop-child l = node_count l.table - l.last
