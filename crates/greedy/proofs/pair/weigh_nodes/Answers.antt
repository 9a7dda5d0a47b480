use Rattle.std.proofs.Common.{◌∙◌, arith}
use Rattle.greedy.specs.PairMarks.{PairReady}
use Rattle.greedy.proofs.TwoWay.{rests_step, weighs}
use Rattle.greedy.proofs.pair.weigh_nodes.Goals as goal

pub loop-v-preserved : goal.loop-v-preserved
loop-v-preserved c =
    let l = c.loop-v in
    let tree = c.args.tree.accepted in
    let ready : PairReady c.args.tree.table.now l.scratch l.v =
    record { above = l.invariant; low = c.loop-v-test.true; high = omega (arith, l.auto.v, c.node_count-v.ensures) } in
    rests_step tree ready _ (c.remainder.ensures ∙ weighs tree ready c.at_node-sides.ensures)
    (omega (arith, l.auto.scratch, c.requires))
