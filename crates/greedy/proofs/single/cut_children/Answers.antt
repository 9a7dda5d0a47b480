use Rattle.std.proofs.Common.{arith}
use Rattle.greedy.proofs.Cut.{cut_takes, cut_turn, cut_end}
use Rattle.greedy.proofs.single.cut_children.Goals as goal

pub overflow_sub-sum : goal.overflow_sub-sum
overflow_sub-sum c =
    (cut_takes c.args.tree.accepted.sound c.requires c.args.room c.loop-sum.invariant c.loop-sum-test.true _ _ _
    c.first_at-first.ensures c.find_heaviest-heavy.ensures c.at-sum.ensures).1

pub loop-sum-smaller : goal.loop-sum-smaller
loop-sum-smaller c =
    let takes =
    cut_takes c.args.tree.accepted.sound c.requires c.args.room c.loop-sum.invariant c.loop-sum-test.true _ _ _
    c.first_at-first.ensures c.find_heaviest-heavy.ensures c.at-sum.ensures in
    omega (arith, takes.0, takes.1)

pub loop-sum-preserved : goal.loop-sum-preserved
loop-sum-preserved c =
    cut_turn c.args.tree.accepted.sound c.requires c.args.room c.loop-sum.invariant c.loop-sum-test.true _ _ _
    c.first_at-first.ensures c.find_heaviest-heavy.ensures c.at-sum.ensures

pub returns : goal.returns
returns c = cut_end c.args.tree.accepted.sound c.requires c.args.room c.loop-sum.invariant c.loop-sum-test.false
