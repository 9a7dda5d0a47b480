use Rattle.std.proofs.Common.{arith, ap, ◌∙◌}
use Rattle.best.proofs.LaySums.{summing_start, summing_high, next_joins, summing_turn, summing_end}
use Rattle.best.proofs.lay.sum_run.Goals as goal

pub loop-init : goal.loop-init
loop-init c =
    let q = c.requires in (q.ready.high, ap (λ s. s.len) q.empty, summing_start q.ready _ q.empty)

pub join-requires : goal.join-requires
join-requires c = next_joins c.requires.ready c.loop.invariant.2

pub loop-preserved : goal.loop-preserved
loop-preserved c =
    let s = summing_turn c.requires.ready c.loop.invariant.2 (omega (arith, c.loop.invariant.1)) _ c.join.ensures in
    (summing_high c.requires.ready s, ap (λ s. s.len) c.join.ensures ∙ omega (arith, c.loop.invariant.1), s)

pub returns : goal.returns
returns c = summing_end c.requires.ready c.loop.invariant.2 (omega (arith, c.loop.invariant.1))
