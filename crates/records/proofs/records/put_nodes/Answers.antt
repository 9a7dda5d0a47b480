use Rattle.std.proofs.Common.{◌-◌, arith}
use Rattle.theory.specs.Put.{records_none}
use Rattle.records.specs.RecordsOf.{node_wide}
use Rattle.records.proofs.Turns.{node_turn}
use Rattle.records.proofs.records.put_nodes.Goals as goal

pub loop-v-init : goal.loop-v-init
loop-v-init c =
    let a = c.args in record {
      few = omega arith;
      put = records_none _ 4 (node_wide a.table.now a.layout.now.parents a.nexts.now) _ a.out.now;
    }

pub loop-v-preserved : goal.loop-v-preserved
loop-v-preserved c =
    let l = c.loop-v in
    let a = c.args in
    let count = c.node_count-v-end.ensures in record {
      few = omega arith;
      put = node_turn a.table.now a.layout.now.parents a.nexts.now _ (l.v - 1) l.v _ _ _ _ a.out.now l.out _
          (omega arith) (omega arith) l.invariant.put (omega arith) (omega (arith, count, c.requires.2))
          c.weight_at-weight.ensures c.label_at-label.ensures c.put_record.ensures;
    }

pub returns-2 : goal.returns-2
returns-2 c =
    let l = c.loop-v in
    let a = c.args in
    let count = c.node_count-v-end.ensures in
    node_turn a.table.now a.layout.now.parents a.nexts.now _ (l.v - 1) l.v _ _ _ _ a.out.now l.out _ (omega arith)
    (omega arith) l.invariant.put (omega arith) (omega (arith, count, c.requires.2)) c.weight_at-weight.ensures
    c.label_at-label.ensures c.put_record.ensures
