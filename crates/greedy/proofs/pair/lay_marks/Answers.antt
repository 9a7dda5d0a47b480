use Rattle.std.proofs.Common.{arith}
use Rattle.greedy.proofs.TwoWay.{links_start, links_step}
use Rattle.greedy.proofs.pair.lay_marks.Goals as goal

pub loop-v-init : goal.loop-v-init
loop-v-init c =
    links_start c.args.kept.tree.table.now c.args.marks.now c.requires.1 c.args.kept.tree.accepted.sound.count_low

pub loop-v-preserved : goal.loop-v-preserved
loop-v-preserved c =
    links_step _ c.args.kept.tree.accepted.sound c.loop-v.invariant c.loop-v.auto.v
    (omega (arith, c.loop-v-test.true, c.node_count-v-end.ensures)) c.lay_below.ensures
