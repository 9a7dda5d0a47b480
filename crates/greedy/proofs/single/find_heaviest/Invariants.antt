use Rattle.std.proofs.Common.{◌≡◌}
use Rattle.theory.specs.PlanShape.{size}
use Rattle.theory.specs.TableChain.{chain_at}
use Rattle.greedy.specs.Kept.{kept}
use Rattle.greedy.proofs.Scan.{HeaviestTo}
use Rattle.greedy.proofs.single.find_heaviest.Given as goal

-- with what is kept of the heaviest
abbrev pub invariant-loop-u : goal.invariant-loop-u
invariant-loop-u l =
    HeaviestTo l.kept.tree.table.now l.kept.scratch.now l.v l.best l.u × (l.most ≡ kept l.kept.scratch.now l.best)

abbrev pub decreases-loop-u : goal.decreases-loop-u
decreases-loop-u l = size (chain_at l.kept.tree.table.now l.u)
