-- Children are cut one after the other, the heaviest first: one turn, and what is reached at the end.
-- Defines CutSoFar (where the cutting stands). Assumes nothing.
use Prim.Native.Nat.{ℕ, zero, suc, ◌+◌, ◌-◌, ◌≤◌, ◌<◌}
use native.Mathlib.Omega.{arith}
use mathlib.Core.Path.{◌≡◌, refl, sym, ◌∙◌, ap}
use mathlib.Core.Logic.{inl}
use mathlib.Core.List.{List}
use lib.ListN.{length, set, length-set}
use Rattle.model.specs.Table.{node_count, limit_of, first_at}
use Rattle.model.specs.Steps.{rest_sum, take_earliest, reduce}
use Rattle.theory.specs.TableFacts.{SoundFacts}
use Rattle.theory.specs.TableLinks.{first_le}
use Rattle.theory.specs.PlanShape.{size}
use Rattle.theory.specs.TableNumbered.{numbered_size, numbered_le}
use Rattle.theory.specs.Reduce.{Turns}
use Rattle.theory.specs.ReduceCount.{reduce_stop, reduce_turn}
use Rattle.theory.specs.TableChain.{chain_at, chain_none, NodeAt, node_at}
use Rattle.greedy.specs.Kept.{kept, Outside, outside_none, outside_then, outside_store}
use Rattle.greedy.specs.SingleMembers.{rest_at, largest_at, EarliestAt, LaidAt, members_rest, members_largest}
use Rattle.greedy.specs.SingleMembers.{largest_some, earliest_at_rest, earliest_at_range, cut_members, cut_rest}
use Rattle.greedy.specs.SingleMembers.{cut_laid}
use Rattle.greedy.specs.SingleSettled.{kids_of}
use Rattle.greedy.specs.SingleCuts.{Heaviest, CutReady, CutDone, most_sum, kid_members}

pub record CutSoFar (t : List ℕ) (v room : ℕ) (s₀ a₀ s a : List ℕ) (sum : ℕ) : Type 0 where
  pub long : length s ≡ length s₀
  pub marks_long : length a ≡ length a₀
  pub sum_is : sum ≡ rest_at t s (first_at t v) (kids_of t v)
  pub goes_on : reduce room (kid_members t s a v) ≡ reduce room (kid_members t s₀ a₀ v)
  pub laid : LaidAt (limit_of t) t a (first_at t v) (kids_of t v) (kid_members t s a v)
  pub rests_outside : Outside v (v + size (kids_of t v)) s₀ s
  pub marks_outside : Outside v (v + size (kids_of t v)) a₀ a

module _ {t : List ℕ} {v : ℕ} {s₀ a₀ : List ℕ} (sound : SoundFacts t) (ready : CutReady t s₀ a₀ v) (room : ℕ) where
  first_high : (f : ℕ) → f ≡ first_at t v → f ≤ node_count t
  first_high f e = omega (arith, first_le sound v ready.low ready.high)

  -- what the sum of the children asks
  pub cut_sums : (f : ℕ) → f ≡ first_at t v → (f ≤ node_count t) × (rest_at t s₀ f (chain_at t f) ≤ most_sum)
  cut_sums f e = (
    first_high f e,
    omega (arith, ap (λ (k : ℕ). rest_at t s₀ k (chain_at t k)) e, ready.small),
  )

  pub cut_start : (f sum : ℕ) → f ≡ first_at t v → sum ≡ rest_at t s₀ f (chain_at t f) → CutSoFar t v room s₀ a₀ s₀ a₀ sum
  cut_start f sum e q =
      record {
        long = refl;
        marks_long = refl;
        sum_is = q ∙ ap (λ (k : ℕ). rest_at t s₀ k (chain_at t k)) e;
        goes_on = refl;
        laid = ready.laid;
        rests_outside = outside_none v (v + size (kids_of t v)) s₀;
        marks_outside = outside_none v (v + size (kids_of t v)) a₀;
      }

  module _ {s a : List ℕ} {sum : ℕ} (x : CutSoFar t v room s₀ a₀ s a sum) where
    -- where there is something to cut, there is a child
    cut_some : (f : ℕ) → f ≡ first_at t v → room < sum → 1 ≤ f
    unfolding rest_at
    cut_some zero e l =
        let none : rest_at t s (first_at t v) (kids_of t v) ≡ 0 = rw (← e, chain_none t) in
        absurd (omega (arith, x.sum_is))
    cut_some (suc f) e l = omega arith

    -- what the scan for the heaviest child asks
    pub cut_scans : (f : ℕ) → f ≡ first_at t v → room < sum → (1 ≤ f) × (f ≤ node_count t)
    cut_scans f e l = (cut_some f e l, first_high f e)

    module _ (over : room < sum) (f h k : ℕ) (e : f ≡ first_at t v) (heavy : Heaviest t s f h) (q : k ≡ kept s h) where
      abbrev most : ℕ
      most = largest_at t s (first_at t v) (kids_of t v)

      earliest : EarliestAt t s most (first_at t v) (kids_of t v) h
      earliest = rw e at heavy.earliest

      -- what is cut is above 0, and no more than the sum
      pub cut_takes : (0 < k) × (k ≤ sum)
      cut_takes =
          let r = earliest_at_rest t s most (first_at t v) (kids_of t v) h earliest in
          let p : 0 < most = largest_some t s (first_at t v) (kids_of t v) (omega (arith, x.sum_is)) in
          (omega (arith, r.0), omega (arith, r.0, r.1, x.sum_is))

      node : NodeAt t v
      node = node_at sound v ready.low ready.high

      last_is : node.last ≡ v + size (kids_of t v)
      last_is = numbered_size node.below

      last_high : node.last ≤ node_count t
      last_high = omega (arith, numbered_le node.after, node.inside)

      turns : Turns room (kid_members t s a v)
      turns =
          record {
            over = omega (arith, x.sum_is, members_rest t s a (first_at t v) (kids_of t v));
            some = omega (
              arith,
              members_largest t s a (first_at t v) (kids_of t v),
              largest_some t s (first_at t v) (kids_of t v) (omega (arith, x.sum_is)),
            );
          }

      next_members : kid_members t (set s (h - 1) 0) (set a (h - 1) 1) v ≡ take_earliest most (kid_members t s a v)
      next_members =
          cut_members s a most h node.below earliest (omega (arith, last_high, x.long, ready.lent.long))
          (omega (arith, last_high, x.marks_long, ready.lent.marks_long))

      next_goes_on : reduce room (kid_members t (set s (h - 1) 0) (set a (h - 1) 1) v) ≡ reduce room (kid_members t s a v)
      next_goes_on =
          ap (reduce room)
          (next_members ∙ ap (λ (g : ℕ). take_earliest g (kid_members t s a v))
          (sym (members_largest t s a (first_at t v) (kids_of t v))))
          ∙ sym (reduce_turn room (kid_members t s a v) turns)

      pub cut_turn : CutSoFar t v room s₀ a₀ (set s (h - 1) 0) (set a (h - 1) 1) (sum - k)
      cut_turn =
          let range = earliest_at_range s most h node.below earliest in
          let r = earliest_at_rest t s most (first_at t v) (kids_of t v) h earliest in
          let high : h ≤ v + size (kids_of t v) = omega (arith, last_is, range.1) in
          record {
            long = simp length-set x.long;
            marks_long = simp length-set x.marks_long;
            sum_is = omega (
              arith,
              x.sum_is,
              r.0,
              cut_rest s most h node.below earliest (omega (arith, last_high, x.long, ready.lent.long)),
            );
            goes_on = next_goes_on ∙ x.goes_on;
            laid = rw next_members
                (cut_laid (limit_of t) s a most h node.below earliest
                (omega (arith, last_high, x.marks_long, ready.lent.marks_long)) x.laid);
            rests_outside =
                outside_then x.rests_outside (outside_store v (v + size (kids_of t v)) s h 0 range.0 high);
            marks_outside =
                outside_then x.marks_outside (outside_store v (v + size (kids_of t v)) a h 1 range.0 high);
          }

    pub cut_end : sum ≤ room → CutDone t v room s₀ a₀ s a sum
    cut_end within =
        let weighs = members_rest t s a (first_at t v) (kids_of t v) in
        let stop : reduce room (kid_members t s a v) ≡ kid_members t s a v =
        reduce_stop room (kid_members t s a v) (inl (omega (arith, x.sum_is))) in
        let is : kid_members t s a v ≡ reduce room (kid_members t s₀ a₀ v) = sym stop ∙ x.goes_on in
        record {
          laid = rw is at x.laid;
          sum = x.sum_is ∙ sym weighs ∙ ap rest_sum is;
          rests_outside = x.rests_outside;
          marks_outside = x.marks_outside;
        }
