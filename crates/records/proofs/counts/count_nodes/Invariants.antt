-- The nodes passed are counted.
use Rattle.std.proofs.Common.{◌+◌, ◌-◌, ◌≡◌, ◌≤◌, length}
use Rattle.records.specs.Size.{film_slots}
use Rattle.records.specs.Counts.{Counted}
use Rattle.records.proofs.counts.count_nodes.Given as goal

abbrev pub invariant-loop-v : goal.invariant-loop-v
invariant-loop-v l = record {
  counted : Counted l.page (l.v - 1) l.counts;
  few : l.v ≤ l.nodes + 1;
  long : length l.counts ≡ film_slots;
}
