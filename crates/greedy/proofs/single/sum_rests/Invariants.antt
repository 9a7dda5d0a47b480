-- The sum so far and what is left come to the whole.
use Rattle.std.proofs.Common.{◌≡◌, ◌+◌, ◌≤◌}
use Rattle.model.specs.Table.{node_count}
use Rattle.theory.specs.PlanShape.{size}
use Rattle.theory.specs.TableChain.{chain_at}
use Rattle.greedy.specs.SingleMembers.{rest_at}
use Rattle.greedy.proofs.single.sum_rests.Given as goal

abbrev pub invariant-loop-u : goal.invariant-loop-u
invariant-loop-u l =
    let t = l.kept.tree.table.now in
    let s = l.kept.scratch.now in
    (l.u ≤ node_count t) × (l.sum + rest_at t s l.u (chain_at t l.u) ≡ rest_at t s l.v (chain_at t l.v))

abbrev pub decreases-loop-u : goal.decreases-loop-u
decreases-loop-u l = size (chain_at l.kept.tree.table.now l.u)
