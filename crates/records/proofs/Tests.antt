-- What the tests of numbers mean, for functions that choose by them. Assumes nothing.
use Rattle.std.proofs.Common.{lt-ltb, le-ltb}
use Rattle.theory.specs.Ranges.{pick_true, pick_false}

pub ruleset tests = (lt-ltb, le-ltb, pick_true, pick_false)
