use Rattle.std.proofs.Common.{◌≡◌}
use Rattle.columns.specs.CellsPlan.{NodesPlanned}
use Rattle.columns.proofs.node.plan_nodes.Given as goal

-- the links to the siblings stay as they were
abbrev pub invariant-loop-v : goal.invariant-loop-v
invariant-loop-v l = NodesPlanned l.table l.gainful l.v l.nodes l.words × (l.nodes.prevs ≡ l.fn.nodes.prevs)
