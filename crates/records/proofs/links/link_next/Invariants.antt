-- What was seen of each key so far, and the links of the nodes passed.
use Rattle.std.proofs.Common.{◌≡◌, length, get_or}
use Rattle.records.specs.Size.{film_slots}
use Rattle.records.specs.Links.{Seen, LinkedFrom}
use Rattle.records.proofs.links.link_next.Given as goal

abbrev pub invariant-loop-v : goal.invariant-loop-v
invariant-loop-v l = record {
  seen_long : length l.seen ≡ film_slots;
  next_long : length l.next ≡ film_slots;
  seen : Seen (λ u. get_or l.keys u 0) l.nodes l.v l.seen;
  linked : LinkedFrom (λ u. get_or l.keys u 0) l.nodes l.v l.next;
}
