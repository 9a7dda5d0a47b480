use Rattle.std.proofs.Common.{◌-◌, ◌≡◌, length}
use Rattle.records.specs.Size.{film_slots}
use Rattle.film.specs.DecodeTable.{Loaded}
use Rattle.film.proofs.decode.load_parents.Given as goal

abbrev pub invariant-loop-v : goal.invariant-loop-v
invariant-loop-v l = record {
  long : length l.parents ≡ film_slots;
  loaded : Loaded l.film.format.edition l.film.archive.now (l.v - 1) l.parents;
}
