-- A node is settled: its children are reduced to what it leaves them of the limit, and it keeps their weight and its
-- own. Assumes nothing.
use Prim.Native.Nat.{ℕ, zero, suc, ◌+◌, ◌-◌, ◌*◌, ◌≤◌, ◌<◌}
use native.Mathlib.Omega.{arith}
use mathlib.Core.Path.{◌≡◌, refl, ◌∙◌, ap, ap₂}
use mathlib.Core.List.{List}
use lib.ListN.{length, set}
use Rattle.model.specs.Table.{max_limit, node_count, limit_of, weight_at, first_at, Chain, end, node}
use Rattle.model.specs.Steps.{rest_sum, whole, cut_down, remainders, reduce}
use Rattle.theory.specs.TableFacts.{AcceptedFacts}
use Rattle.theory.specs.PlanShape.{size, EachWithin}
use Rattle.theory.specs.TableNumbered.{numbered_size, numbered_le}
use Rattle.theory.specs.SingleShape.{cut_down_reduced}
use Rattle.theory.specs.TableChain.{NodeAt, node_at, link_within}
use Rattle.greedy.specs.Kept.{kept_same, outside_then, outside_more, outside_store, same_store}
use Rattle.greedy.specs.SingleMembers.{members_rest, laid_same}
use Rattle.greedy.specs.SingleSettled.{Settled, kids_of, cut_kids, SettledDown, step}
use Rattle.greedy.specs.SingleCuts.{CutReady, CutDone, SettleReady, kid_members}

-- each remainder is within the limit
remainders_small : (K : ℕ) (c : Chain) → EachWithin K c → K ≤ max_limit → rest_sum (remainders K c) ≤ max_limit * size c
unfolding EachWithin remainders rest_sum size whole
remainders_small K end h l = omega arith
remainders_small K (node w lab kids next) h l =
    let ih = remainders_small K next h.2 l in
    let fits = (cut_down_reduced K w kids).fits in
    omega (arith, h.0)

module _ {t s a : List ℕ} {v : ℕ} (tree : AcceptedFacts t) (ready : SettleReady t s a v) where
  at_node : NodeAt t v
  at_node = node_at tree.sound v ready.low ready.high

  last_high : at_node.last ≤ node_count t
  last_high = omega (arith, numbered_le at_node.after, at_node.inside)

  pub settle_light : weight_at t v ≤ limit_of t
  settle_light = tree.light v ready.low ready.high

  pub settle_cuts : CutReady t s a v
  settle_cuts =
      let small =
      remainders_small (limit_of t) (kids_of t v) (link_within tree at_node.below last_high)
      tree.sound.limit_high in
      let sized = numbered_size at_node.below in
      record {
        low = ready.low;
        high = ready.high;
        lent = ready.lent;
        small = omega (
          arith,
          members_rest t s a (first_at t v) (kids_of t v),
          ap rest_sum ready.rests_kept.rests,
          small,
          sized,
          last_high,
          tree.sound.count_high,
        );
        laid = rw ready.rests_kept.rests ready.rests_kept.laid;
      }

  module _ (room : ℕ) {s' a' : List ℕ} (r : ℕ) (e : room ≡ limit_of t - weight_at t v)
      (x : CutDone t v room s a s' a' r) where
    cut_is : reduce room (kid_members t s a v) ≡ cut_kids t v
    unfolding cut_down
    cut_is = ap₂ reduce e ready.rests_kept.rests

    pub settle_fits : weight_at t v + r ≤ limit_of t
    settle_fits =
        omega (
          arith,
          x.sum,
          ap rest_sum cut_is,
          (cut_down_reduced (limit_of t) (weight_at t v) (kids_of t v)).fits,
          settle_light,
        )

    pub settle_done : (k : ℕ) → k ≡ weight_at t v + r → length s' ≡ length s → length a' ≡ length a
        → Settled t v s a (set s' (v - 1) k) (set a' (v - 1) 0)
    settle_done k q ls la =
        let sized : at_node.last ≡ v + size (kids_of t v) = numbered_size at_node.below in
        let low : 1 ≤ v = ready.low in
        let below : v - 1 < v = omega arith in
        let reach : v ≤ v + size (kids_of t v) = omega arith in
        record {
          laid = laid_same (limit_of t) (cut_kids t v) at_node.below
              (same_store v at_node.last a' v 0 low (λ l h. omega arith)) (rw cut_is at x.laid);
          rest = kept_same s' v k low (omega (arith, ready.high, ready.lent.long))
              ∙ q
              ∙ ap (λ (n : ℕ). weight_at t v + n) (x.sum ∙ ap rest_sum cut_is);
          mark = kept_same a' v 0 low (omega (arith, ready.high, ready.lent.marks_long));
          rests_outside =
              outside_then (outside_more (v - 1) (v + size (kids_of t v)) (omega arith) (omega arith) x.rests_outside)
              (outside_store (v - 1) (v + size (kids_of t v)) s' v k below reach);
          marks_outside =
              outside_then (outside_more (v - 1) (v + size (kids_of t v)) (omega arith) (omega arith) x.marks_outside)
              (outside_store (v - 1) (v + size (kids_of t v)) a' v 0 below reach);
        }

pub down_step : {t s a : List ℕ} {n v : ℕ} {s₁ a₁ s₂ a₂ : List ℕ} → SettledDown t s a n v s₁ a₁ → (v ≡ 0 → ⊥)
    → Settled t v s₁ a₁ s₂ a₂ → SettledDown t s a n (v - 1) s₂ a₂
down_step {v = zero} d ne x = absurd (ne refl)
down_step {v = suc b} d ne x = let e : suc b - 1 ≡ b = omega arith in rw e (step d x)
