use Rattle.std.proofs.Common.{◌+◌, ◌-◌, ◌≡◌, ◌≤◌, length}
use Rattle.records.specs.Size.{film_slots}
use Rattle.film.specs.DecodeMarks.{MarksPass}
use Rattle.film.proofs.decode.fill_marks.Given as goal

abbrev pub invariant-loop-v : goal.invariant-loop-v
invariant-loop-v l = record {
  few : l.v ≤ l.nodes + 1;
  long : length l.due ≡ film_slots;
  passed : MarksPass l.lasts l.links l.nodes (l.v - 1) l.plan l.due;
}
