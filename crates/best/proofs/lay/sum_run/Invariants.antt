use Rattle.std.proofs.Common.{◌≤◌, ◌≡◌}
use Rattle.model.specs.Table.{max_nodes}
use Rattle.best.proofs.LaySums.{Summing}
use Rattle.best.proofs.lay.sum_run.Given as goal

-- the next member is a node
abbrev pub invariant-loop : goal.invariant-loop
invariant-loop l =
    (l.next ≤ max_nodes) × (l.sums.len ≡ l.counter) × Summing l.nodes l.child l.len l.sums l.next
