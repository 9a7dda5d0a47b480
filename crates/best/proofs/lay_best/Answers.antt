use Rattle.best.proofs.NodeStart.{starts_ready}
use Rattle.best.proofs.lay_best.Goals as goal

pub plan_nodes-requires : goal.plan_nodes-requires
plan_nodes-requires c =
    starts_ready _ c.args.tree.accepted c.requires.1 c.link_before.ensures c.limit_of.ensures c.open_block.ensures
