use Rattle.std.proofs.Common.{ℕ, ◌-◌, get_or, take, arith, length-set}
use Rattle.table.proofs.Pending.{turn_met, stack_top, stack_pushed}
use Rattle.table.proofs.walk.walk_place.Goals as goal

pub loop-height-preserved-then-v-ne0 : goal.loop-height-preserved-then-v-ne0
loop-height-preserved-then-v-ne0 c =
    let t = c.args.table.now in
    let l = c.loop-height in
    let v : ℕ = get_or l.pending (l.height - 1) 0 in
    let s = take (l.height - 1) l.pending in
    let top = stack_top l.pending l.height (omega arith) (omega arith) in
    let met = turn_met t c.node_count-nodes.result l.met s v (omega arith) (omega arith) in
    let pushed = stack_pushed l.pending (l.height - 1) c.next_at-then-v-ne0.result c.first_at.result (omega arith) in
    record {
      long = simp length-set l.invariant.long;
      low = omega arith;
      fits = omega arith;
      walks = cc (l.invariant.walks, top, met, pushed, c.next_at-then-v-ne0.ensures, c.first_at.ensures);
    }
