use Rattle.std.proofs.Common.{◌≡◌, ◌-◌, get_or}
use Rattle.columns.specs.CellsRun.{counts_of}
use Rattle.best.specs.CellsLevel.{level_from}
use Rattle.best.specs.LayChoices.{levelling}
use Rattle.best.proofs.lay.GainLevel.find.Given as goal

abbrev pub invariant-loop-gain : goal.invariant-loop-gain
invariant-loop-gain l =
    level_from l.sums.top (counts_of l.sums.counts) l.limit l.sums.total
    ≡ level_from l.gain (counts_of l.sums.counts) l.limit l.sum

abbrev pub invariant-loop-times : goal.invariant-loop-times
invariant-loop-times l =
    level_from l.sums.top (counts_of l.sums.counts) l.limit l.sums.total
    ≡ levelling l.gain (get_or l.sums.counts l.gain 0 - l.times) l.times (counts_of l.sums.counts) l.limit l.sum
