use Rattle.std.proofs.Common.{refl, arith, replicate, length-set}
use Rattle.std.proofs.lemmas.List.{get_or-replicate}
use Rattle.records.specs.Size.{film_slots}
use Rattle.records.specs.Links.{seen_start, seen_turn, linked_start, linked_turn}
use Rattle.records.proofs.links.link_next.Goals as goal

pub loop-v-init : goal.loop-v-init
loop-v-init c = record {
  seen_long = refl;
  next_long = refl;
  seen = seen_start _ _ (replicate film_slots 0) (λ k fits. get_or-replicate film_slots k 0 0 fits);
  linked = linked_start _ _ (replicate film_slots 0);
}

pub loop-v-preserved : goal.loop-v-preserved
loop-v-preserved c =
    let l = c.loop-v in
    let i = c.loop-v.invariant in
    let few = l.auto.v in
    let low = c.loop-v-test.true in
    let key = c.requires.1 l.v low few in record {
      seen_long = simp length-set i.seen_long;
      next_long = simp length-set i.next_long;
      seen = seen_turn _ _ l.seen l.v i.seen i.seen_long low few key;
      linked = linked_turn _ _ l.seen l.next l.v i.seen i.linked (omega arith) key low;
    }
