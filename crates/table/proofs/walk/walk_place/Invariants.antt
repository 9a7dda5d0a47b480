-- What is still to be visited is a stack.
use Rattle.std.proofs.Common.{◌≡◌, ◌+◌, ◌*◌, ◌≤◌, ◌-◌, length, take}
use Rattle.model.specs.Table.{slots, walk_place}
use Rattle.table.proofs.Pending.{walk_on}
use Rattle.table.proofs.walk.walk_place.Given as goal

abbrev pub invariant-loop-height : goal.invariant-loop-height
invariant-loop-height l = record {
  long : length l.pending ≡ slots;
  low : l.height ≤ l.met + 1;
  fits : l.met ≤ l.nodes;
  walks : walk_place l.table ≡ walk_on l.table l.nodes l.met (take l.height l.pending);
}

abbrev pub decreases-loop-height : goal.decreases-loop-height
decreases-loop-height l = 2 * (l.nodes - l.met) + l.height
