use Rattle.std.proofs.Common.{refl, arith, rules}
use Rattle.columns.proofs.NodeGains.{block_fits, rest_fits, gain_fits, node_planned}
use Rattle.columns.proofs.node.plan_node.Goals as goal

pub gain_in-gain-requires : goal.gain_in-gain-requires
gain_in-gain-requires c =
    let x = c.fill_columns-last.ensures in
    let limit = c.limit_of-limit.ensures in
    let weight = c.weight_at-weight.ensures in
    let here = c.block_at-here.ensures in
    let light = c.requires.0.ready.accepted.light c.args.v c.requires.1 c.requires.2 in
    let room = block_fits c.requires.1 c.requires.2 c.requires.0 x in (
      omega (arith, limit, c.requires.0.ready.accepted.sound.limit_high),
      omega (arith, limit, weight, light),
      rest_fits c.requires.1 c.requires.2 c.requires.0 x _ _ _ _ limit weight here refl,
      omega (arith, here, rw (← limit) at room),
    )

pub overflow_cast-gain : goal.overflow_cast-gain
overflow_cast-gain c =
    let fits =
    gain_fits c.requires.1 c.requires.2 c.requires.0 c.fill_columns-last.ensures _ _ _ _ c.limit_of-limit.ensures
    c.weight_at-weight.ensures c.block_at-here.ensures refl c.gain_in-gain.result c.gain_in-gain.ensures in
    omega (arith, fits)

pub returns-clause-planned : goal.returns-clause-planned
returns-clause-planned c =
    node_planned c.requires.1 c.requires.2 c.requires.0 c.fill_columns-last.ensures _ _ _ _ c.limit_of-limit.ensures
    c.weight_at-weight.ensures c.block_at-here.ensures refl c.gain_in-gain.result c.gain_in-gain.ensures
    (search rules) (search rules) (search rules)
