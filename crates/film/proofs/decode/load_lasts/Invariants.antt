use Rattle.std.proofs.Common.{◌+◌, ◌-◌, ◌≡◌, ◌≤◌, length}
use Rattle.records.specs.Size.{film_slots}
use Rattle.film.specs.DecodeMarks.{LastsPass}
use Rattle.film.proofs.decode.load_lasts.Given as goal

abbrev pub invariant-loop-q : goal.invariant-loop-q
invariant-loop-q l = record {
  long : length l.lasts ≡ film_slots;
  few : l.q ≤ l.q-end + 1;
  passed : LastsPass l.film.format.edition l.film.archive.now (l.q - 1) l.lasts;
}
