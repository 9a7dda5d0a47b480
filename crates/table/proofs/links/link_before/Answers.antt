use Rattle.std.proofs.Common.{arith}
use Rattle.table.proofs.Linking.{linking_start, linking_turn, linking_end}
use Rattle.table.proofs.links.link_before.Goals as goal
use Rattle.table.proofs.links.link_before.Goals.{else-loop-v-test, then-loop-v-test+else-v-nodes}

pub loop-v-init : goal.loop-v-init
loop-v-init c = linking_start _

pub loop-v-preserved : goal.loop-v-preserved
loop-v-preserved c =
    linking_turn c.args.tree.accepted _ (omega arith) (omega arith) _ _ c.next_at.ensures c.loop-v.invariant

pub returns : goal.returns
returns c =
    elim c.loop-v-test.branch [
      | else-loop-v-test w ↦ rw w.prevs-is (linking_end _ _ (omega arith) c.loop-v.invariant)
      | then-loop-v-test+else-v-nodes w ↦
          rw w.prevs-is (linking_end _ _ (omega arith)
          (linking_turn c.args.tree.accepted _ (omega arith) (omega arith) _ _ w.next_at.ensures c.loop-v.invariant))
    ]
