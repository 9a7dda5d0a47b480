use Rattle.std.proofs.Common.{arith}
use Rattle.greedy.proofs.Scan.{next_high, sum_more, sum_fits, sum_end}
use Rattle.greedy.proofs.single.sum_rests.Goals as goal

pub overflow_add-sum : goal.overflow_add-sum
overflow_add-sum c =
    let l = c.loop-u in
    let fits =
    sum_fits c.args.kept.tree.accepted.sound c.args.kept.scratch.now l.u l.sum _ _ (omega arith) l.invariant.0
    c.at-sum.ensures l.invariant.1 in
    record { fits = omega (arith, c.requires.1, fits) }

pub loop-u-preserved : goal.loop-u-preserved
loop-u-preserved c =
    let l = c.loop-u in
    let sound = c.args.kept.tree.accepted.sound in
    let s = c.args.kept.scratch.now in (
      next_high sound s l.u _ (omega arith) l.invariant.0 c.next_at-u.ensures,
      sum_more sound s l.u _ l.sum _ _ (omega arith) l.invariant.0 c.next_at-u.ensures c.at-sum.ensures l.invariant.1,
    )

pub returns : goal.returns
returns c =
    let l = c.loop-u in
    sum_end c.args.kept.tree.accepted.sound c.args.kept.scratch.now l.u l.sum _ c.loop-u-test.false l.invariant.1
