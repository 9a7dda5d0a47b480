-- The nodes after v are settled.
use Rattle.model.specs.Table.{node_count}
use Rattle.greedy.specs.SingleSettled.{SettledDown}
use Rattle.greedy.proofs.single.lay_single.Given as goal

abbrev pub invariant-loop-v : goal.invariant-loop-v
invariant-loop-v l =
    SettledDown l.tree.table.now l.fn.scratch l.fn.marks (node_count l.tree.table.now) l.v l.scratch l.marks
