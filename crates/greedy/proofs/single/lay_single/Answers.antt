use Rattle.std.proofs.Common.{◌≡◌, ◌≤◌, ◌∙◌, arith}
use Rattle.model.specs.Table.{node_count}
use Rattle.greedy.specs.SingleSettled.{start, down_kids, down_plan}
use Rattle.greedy.proofs.Settle.{down_step}
use Rattle.greedy.proofs.single.lay_single.Goals as goal

pub loop-v-init : goal.loop-v-init
loop-v-init c = rw c.node_count-v.ensures start

pub settle-requires : goal.settle-requires
settle-requires c =
    let l = c.loop-v in
    let high : l.v ≤ node_count c.args.tree.table.now = omega (arith, l.auto.v, c.node_count-v.ensures) in
    record {
      lent = record { marks_long = l.auto.marks ∙ c.requires.0; long = omega (arith, l.auto.scratch, c.requires.1) };
      low = c.loop-v-test.true;
      high = high;
      rests_kept = down_kids c.args.tree.accepted.sound c.loop-v-test.true high l.invariant;
    }

pub loop-v-preserved : goal.loop-v-preserved
loop-v-preserved c = down_step c.loop-v.invariant (omega arith) c.settle.ensures

pub returns : goal.returns
returns c =
    let l = c.loop-v in
    let none : l.v ≡ 0 = omega arith in
    down_plan c.args.tree.accepted.sound (rw none at l.invariant) (l.auto.marks ∙ c.requires.0)
