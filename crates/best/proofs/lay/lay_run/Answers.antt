use Rattle.std.proofs.Common.{◌≡◌, ◌-◌, inl, inr, arith, rules}
use Rattle.best.specs.LayChoices.{last_mark}
use Rattle.best.proofs.LayMarking.{levelled, count_less, level_small}
use Rattle.best.proofs.LayMarking.{marking_start, marking_high, marking_low, marking_takes, marking_turn, marking_end}
use Rattle.best.proofs.lay.lay_run.Goals as goal
use Rattle.best.proofs.lay.lay_run.Goals.{then-gain-level, else-gain-level}

pub find-level-requires : goal.find-level-requires
find-level-requires c =
    let kept = c.sum_run.ensures c.args.limit c.requires.good in
    (kept.top_high, c.requires.limit_high)

pub bounds-sums-level : goal.bounds-sums-level
bounds-sums-level c =
    omega (arith, level_small c.requires (levelled c.requires c.sum_run.ensures c.find-level.ensures))

pub loop-left-init : goal.loop-left-init
loop-left-init c = (
  c.requires.high,
  marking_start c.requires (levelled c.requires c.sum_run.ensures c.find-level.ensures),
)

pub overflow_sub-before : goal.overflow_sub-before
overflow_sub-before c = marking_takes c.requires c.loop-left.invariant.1 (omega arith) c.if-gain-level.true

pub overflow_sub-marks : goal.overflow_sub-marks
overflow_sub-marks c = marking_low c.requires c.loop-left.invariant.1 (omega arith)

pub bounds-marks-next : goal.bounds-marks-next
bounds-marks-next c = omega (arith, marking_low c.requires c.loop-left.invariant.1 (omega arith))

pub loop-left-preserved : goal.loop-left-preserved
loop-left-preserved c =
    let l = c.loop-left in
    let level = c.find-level in
    let mark : c.mark_of.result ≡ last_mark (l.left - 1) = search rules in
    let m = marking_turn c.requires (levelled c.requires c.sum_run.ensures level.ensures) l.invariant.1 (omega arith)
    c.if-gain-level.before c.mark_of.result c.takes.result
    (count_less _ level.result.gain l.before _
    (elim c.if-gain-level.branch [
      | then-gain-level w ↦ inl (w.if-gain-level.true, w.before-is)
      | else-gain-level w ↦ inr (w.if-gain-level.false, w.before-is)
    ]))
    mark c.takes.ensures in
    (marking_high c.requires m, m)

pub returns : goal.returns
returns c =
    marking_end c.requires (levelled c.requires c.sum_run.ensures c.find-level.ensures) c.loop-left.invariant.1
    (omega arith)
