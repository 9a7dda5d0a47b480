use Rattle.std.proofs.Common.{◌≡◌, ◌+◌, ◌-◌, sym, ◌∙◌, ap, arith}
use Rattle.columns.specs.CellsRun.{counts_of}
use Rattle.best.specs.CellsLevel.{level_from}
use Rattle.best.specs.LayChoices.{levelling, levelling_start, levelling_down}
use Rattle.best.specs.LayChoices.{levelling_stop, levelling_take}
use Rattle.best.proofs.lay.GainLevel.find.Goals as goal

pub loop-times-init : goal.loop-times-init
loop-times-init c =
    let l = c.loop-gain in
    let counts = counts_of c.args.sums.now.counts in
    l.invariant
    ∙ levelling_start l.gain counts c.args.limit l.sum
    ∙ ap (λ n. levelling l.gain n 0 counts c.args.limit l.sum) (omega arith)

pub returns-then-sum-limit : goal.returns-then-sum-limit
returns-then-sum-limit c =
    let l = c.loop-times in
    sym
    (l.invariant
    ∙ levelling_stop c.loop-gain.gain _ l.times (counts_of c.args.sums.now.counts) c.args.limit l.sum (omega arith)
    (omega arith) c.if-sum-limit.true)

pub loop-times-preserved : goal.loop-times-preserved
loop-times-preserved c =
    let l = c.loop-times in
    let g = c.loop-gain.gain in
    let counts = counts_of c.args.sums.now.counts in
    l.invariant
    ∙ levelling_take g _ l.times counts c.args.limit l.sum (omega arith) (omega arith) c.if-sum-limit.false
    ∙ ap (λ n. levelling g n (l.times + 1) counts c.args.limit (l.sum - g)) (omega arith)

pub loop-gain-preserved : goal.loop-gain-preserved
loop-gain-preserved c =
    let l = c.loop-times in
    let g = c.loop-gain.gain in
    let counts = counts_of c.args.sums.now.counts in
    l.invariant
    ∙ ap (λ n. levelling g n l.times counts c.args.limit l.sum) (omega arith)
    ∙ levelling_down g l.times counts c.args.limit l.sum (omega arith)
    ∙ sym (levelling_start (g - 1) counts c.args.limit l.sum)

pub returns : goal.returns
unfolding level_from
returns c =
    let l = c.loop-gain in
    let e : l.gain ≡ 0 = omega arith in
    sym (l.invariant ∙ ap (λ g. level_from g (counts_of c.args.sums.now.counts) c.args.limit l.sum) e)
