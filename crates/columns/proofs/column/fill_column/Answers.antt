-- Each run that was tried leads to the cells that are sought.
use Rattle.std.proofs.Common.{◌-◌, arith}
use Rattle.columns.proofs.ColumnRuns.{stretch_start, stretch_again, stretch_end, joins_fits, counts_small, total_small}
use Rattle.columns.proofs.ColumnRuns.{stops_end, taking_start, taking_some, taking_down, taking_more, taken_small}
use Rattle.columns.proofs.ColumnRuns.{relax_ready}
use Rattle.columns.proofs.column.fill_column.Goals as goal

pub stretch-init : goal.stretch-init
stretch-init c =
    stretch_start c.requires.1 _ _ _ _ c.block_at-here.ensures c.block_at-first.ensures c.stay.ensures c.none-sums.ensures

pub join-requires : goal.join-requires
join-requires c = joins_fits c.stretch.invariant c.stretch-test.true

pub loop-sum-init : goal.loop-sum-init
loop-sum-init c = taking_start c.stretch.invariant c.stretch-test.true _ c.join.ensures

pub overflow_sub-sums : goal.overflow_sub-sums
overflow_sub-sums c = (total_small c.loop-sum.invariant).0

-- the lightest total is within the limit, and the sum is not: a gain is left
pub overflow_sub-gain : goal.overflow_sub-gain
overflow_sub-gain c =
    let some = taking_some c.loop-sum.invariant (omega arith) c.loop-sum-test.true in
    omega arith

pub loop-sum-smaller-then-left-eq0 : goal.loop-sum-smaller-then-left-eq0
loop-sum-smaller-then-left-eq0 c =
    let some = taking_some c.loop-sum.invariant (omega arith) c.loop-sum-test.true in
    omega (arith, counts_small c.loop-sum.invariant (c.loop-sum.gain - 1))

pub loop-sum-preserved-then-left-eq0 : goal.loop-sum-preserved-then-left-eq0
loop-sum-preserved-then-left-eq0 c =
    taking_down c.loop-sum.invariant (omega arith) c.loop-sum-test.true c.if-left-eq0.true

pub overflow_add-taken : goal.overflow_add-taken
overflow_add-taken c = omega (arith, c.loop-sum.invariant.taken_high, total_small c.loop-sum.invariant)

pub loop-sum-preserved : goal.loop-sum-preserved
loop-sum-preserved c =
    taking_more c.loop-sum.invariant (omega arith) c.loop-sum-test.true c.if-left-eq0.false _ (omega arith)

-- as many second plans are taken as there are nodes, at most
pub overflow_add-taken-in-stretch : goal.overflow_add-taken-in-stretch
overflow_add-taken-in-stretch c = omega (arith, taken_small c.loop-sum.invariant c.loop-sum-test.false)

pub overflow_mul-taken : goal.overflow_mul-taken
overflow_mul-taken c = omega (arith, taken_small c.loop-sum.invariant c.loop-sum-test.false)

pub relax-requires : goal.relax-requires
relax-requires c =
    relax_ready c.loop-sum.invariant c.loop-sum-test.false _ _ c.block_at-here.ensures c.block_at-before.ensures
    c.requires.0

pub stretch-preserved : goal.stretch-preserved
stretch-preserved c =
    stretch_again c.loop-sum.invariant c.loop-sum-test.false _ _ c.block_at-here.ensures c.block_at-before.ensures _
    c.relax.ensures

pub returns-after-stretch : goal.returns-after-stretch
returns-after-stretch c = stretch_end c.stretch.invariant c.stretch-test.false

pub returns-then-limit-sums : goal.returns-then-limit-sums
returns-then-limit-sums c = stops_end c.loop-sum.invariant (omega arith)
