use Rattle.std.proofs.Common.{◌-◌, arith}
use Rattle.theory.specs.Put.{records_none}
use Rattle.records.specs.RecordsOf.{page_wide}
use Rattle.records.proofs.Turns.{page_turn}
use Rattle.records.proofs.records.put_pages.Goals as goal

pub loop-p-init : goal.loop-p-init
loop-p-init c = record {
  few = omega arith;
  put = records_none _ _ (page_wide c.args.format.in_room _ _ _ _ _) _ _;
}

pub loop-p-preserved : goal.loop-p-preserved
loop-p-preserved c =
    let l = c.loop-p in
    let a = c.args in record {
      few = omega arith;
      put = page_turn a.format.in_room _ _ _ _ _ (l.p - 1) l.p _ _ _ a.out.now l.out _ _ (omega arith) (omega arith)
          l.invariant.put (omega arith) (omega arith) (omega arith) c.page_after-after.ensures c.put_record.ensures
          c.put_fifth.ensures;
    }

pub returns-2 : goal.returns-2
returns-2 c =
    let l = c.loop-p in
    let a = c.args in
    page_turn a.format.in_room _ _ _ _ _ (l.p - 1) l.p _ _ _ a.out.now l.out _ _ (omega arith) (omega arith)
    l.invariant.put (omega arith) (omega arith) (omega arith) c.page_after-after.ensures c.put_record.ensures
    c.put_fifth.ensures
