use Rattle.std.proofs.Common.{ℕ, List, ◌+◌, ◌-◌, ◌<◌, ◌≡◌, sym, ◌∙◌, ap, arith, rules, length, get_or, set, length-set}
use Rattle.std.proofs.lemmas.List.{get_or-replicate}
use Rattle.records.specs.Size.{film_slots}
use Rattle.records.specs.Counts.{Counted, counted_start, counted_turn, counted_few}
use Rattle.records.proofs.counts.count_nodes.Goals as goal

-- one more node, v after w, and k of them counted then
turned : (page l : List ℕ) (w v k : ℕ) → w + 1 ≡ v → v ≡ k → Counted page w l → length l ≡ film_slots
    → get_or page v 0 < film_slots → Counted page k (set l (get_or page v 0) (get_or l (get_or page v 0) 0 + 1))
turned page l w v k e q h long fits = rw (← q, ← e) (counted_turn page l w h long (rw (sym e) at fits))

pub loop-v-init : goal.loop-v-init
loop-v-init c =
    let none = c.requires.3 in record {
      counted = counted_start _ _ (λ k fits. ap (λ l. get_or l k 0) none ∙ get_or-replicate film_slots k 0 0 fits);
      few = omega arith;
      long = ap length none;
    }

pub overflow_add-counts : goal.overflow_add-counts
overflow_add-counts c =
    let l = c.loop-v in
    let few = counted_few _ l.counts _ _ l.invariant.counted (c.requires.1 l.v (omega arith) (omega arith)) in
    search rules

pub loop-v-preserved : goal.loop-v-preserved
loop-v-preserved c =
    let l = c.loop-v in
    let page = c.requires.1 l.v (omega arith) (omega arith) in record {
      counted = turned _ l.counts _ l.v _ (omega arith) (omega arith) l.invariant.counted l.invariant.long page;
      few = omega arith;
      long = simp length-set l.invariant.long;
    }

pub returns-then-e-gt4 : goal.returns-then-e-gt4
returns-then-e-gt4 c =
    let all : c.loop-v.v - 1 ≡ c.args.nodes = omega arith in
    λ five. rw all at c.loop-v.invariant.counted

pub returns-then-e-gt4-2 : goal.returns-then-e-gt4-2
returns-then-e-gt4-2 c =
    let l = c.loop-v in
    let page = c.requires.1 l.v (omega arith) (omega arith) in
    λ five. turned _ l.counts _ l.v _ (omega arith) (omega arith) l.invariant.counted l.invariant.long page
