-- No number passed so far passes the test.
use Rattle.std.proofs.Common.{ℕ, ◌≤◌, ◌<◌, false}
use Rattle.table.proofs.first_to.Given as goal

abbrev pub invariant-loop-v : goal.invariant-loop-v
invariant-loop-v g l = (u : ℕ) → 1 ≤ u → u < l.v → goal.F-post g l.passes u false
