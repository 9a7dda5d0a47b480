-- Pages by number: the page of a node by its mark, and the marks that are good. Proves page_of_begins, page_of_continues,
-- page_of_stays; bad_none, good_first, good_later, good_continues, good_after; of marks with none bad good_node,
-- root_begins, not_root, pages_low. Assumes nothing.
use Rattle.std.specs.Prelude.{ℕ, ◌≤◌, ◌<◌, true, false, not, ◌&&◌, ◌||◌, ◌≡◌, refl, ◌↔◌, ◌⊎◌, List, eqb}
use Rattle.std.proofs.Common.{arith, eq-or-lt_of_le, true≢false, sym, ◌∙◌, ap, inl, inr, ⊎_elim, eqb-true, ne_eqb}
use Rattle.std.proofs.lemmas.Bool.{eqb-false, not-true, not-false}
use Rattle.model.specs.Basics.{pick, count_to}
use Rattle.model.specs.Table.{node_count}
use Rattle.model.specs.Plan.{prev_at, parent_at, begins, continues, stays, mark_at, has_mark, in_run, good_mark, page_of}
use Rattle.model.specs.Plan.{page_count, bad_mark}
use Rattle.std.specs.declared.option.Option.TheVariants.{None}
use Rattle.theory.specs.Bools.{both_true}
use Rattle.theory.specs.Ranges.{Upto, pick_true, pick_false, first_to_none, first_to_nowhere}
use Rattle.theory.specs.Chosen.{count_to_some}
use Rattle.theory.specs.TableFacts.{SoundFacts}
use Rattle.theory.specs.PlanPass.{step_back, page_of_step}

-- ---- The page of a node, by its mark

pub page_of_begins : (t m : List ℕ) (v : ℕ) → 1 ≤ v → has_mark m begins v ≡ true
    → page_of t m v ≡ count_to v (has_mark m begins)
page_of_begins t m v low e =
    page_of_step t m v low
    ∙ pick_true (has_mark m begins v) (count_to v (has_mark m begins)) (page_of t m (step_back t m v)) e

-- a node that begins no run is on the page of the node one step back
page_of_shares : (t m : List ℕ) (v : ℕ) → 1 ≤ v → has_mark m begins v ≡ false → page_of t m v ≡ page_of t m (step_back t m v)
page_of_shares t m v low e =
    page_of_step t m v low
    ∙ pick_false (has_mark m begins v) (count_to v (has_mark m begins)) (page_of t m (step_back t m v)) e

pub page_of_continues : (t m : List ℕ) (v : ℕ) → 1 ≤ v → has_mark m continues v ≡ true
    → page_of t m v ≡ page_of t m (prev_at t v)
page_of_continues t m v low e =
    let two : mark_at m v ≡ 2 = eqb-true (mark_at m v) 2 e in
    page_of_shares t m v low (ne_eqb (mark_at m v) 1 (λ z. omega arith))
    ∙ ap (page_of t m) (pick_true (has_mark m continues v) (prev_at t v) (parent_at t v) e)

pub page_of_stays : (t m : List ℕ) (v : ℕ) → 1 ≤ v → has_mark m begins v ≡ false → has_mark m continues v ≡ false
    → page_of t m v ≡ page_of t m (parent_at t v)
page_of_stays t m v low e e' =
    page_of_shares t m v low e ∙ ap (page_of t m) (pick_false (has_mark m continues v) (prev_at t v) (parent_at t v) e')

-- ---- Marks that are good

pub bad_none : (t m : List ℕ) → (bad_mark t m ≡ None) ↔ Upto (node_count t) (λ v. good_mark t m v ≡ true)
unfolding bad_mark
bad_none t m = (
  λ e v low high. not-false (good_mark t m v) (first_to_nowhere (node_count t) (λ v. not (good_mark t m v)) e v low high),
  λ h. first_to_none (node_count t) (λ v. not (good_mark t m v)) (λ v low high. ap not (h v low high)),
)

pub good_first : (t m : List ℕ) → good_mark t m 1 ≡ has_mark m begins 1
unfolding good_mark pick
good_first t m = refl

pub good_later : (t m : List ℕ) (v : ℕ) → 2 ≤ v
    → good_mark t m v
    ≡ pick (has_mark m continues v) (not (eqb (prev_at t v) 0) && in_run m (prev_at t v))
    (has_mark m stays v || has_mark m begins v)
unfolding good_mark
good_later t m v low = pick_false (eqb v 1) (has_mark m begins v) _ (ne_eqb v 1 (λ z. omega arith))

-- a node that continues a run has a sibling before it, in the run
good_prev : (t m : List ℕ) (v : ℕ) → 1 ≤ v → good_mark t m v ≡ true → has_mark m continues v ≡ true
    → (1 ≤ prev_at t v) × (in_run m (prev_at t v) ≡ true)
good_prev t m v low good e = go (eq-or-lt_of_le low)
  where
    go : (1 ≡ v) ⊎ (1 < v) → (1 ≤ prev_at t v) × (in_run m (prev_at t v) ≡ true)
    go (inl one) =
        let first : has_mark m begins 1 ≡ true = sym (good_first t m) ∙ ap (good_mark t m) one ∙ good in
        absurd (omega (arith, eqb-true (mark_at m 1) 1 first, eqb-true (mark_at m v) 2 e, ap (mark_at m) one))
    go (inr two) =
        let both =
        both_true (not (eqb (prev_at t v) 0)) (in_run m (prev_at t v))
        (sym (pick_true (has_mark m continues v) _ _ e) ∙ sym (good_later t m v two) ∙ good) in
        let some : prev_at t v ≡ 0 → ⊥ = eqb-false (prev_at t v) 0 (not-true (eqb (prev_at t v) 0) both.0) in
        (omega arith, both.1)

pub good_continues : (t m : List ℕ) (v : ℕ) → 1 ≤ v → good_mark t m v ≡ true → has_mark m continues v ≡ true
    → 1 ≤ prev_at t v
good_continues t m v low good e = (good_prev t m v low good e).0

pub good_after : (t m : List ℕ) (v : ℕ) → 1 ≤ v → good_mark t m v ≡ true → has_mark m continues v ≡ true
    → in_run m (prev_at t v) ≡ true
good_after t m v low good e = (good_prev t m v low good e).1

-- ---- A plan with no bad mark

module _ {t : List ℕ} (s : SoundFacts t) (m : List ℕ) (good : bad_mark t m ≡ None) where
  pub good_node : (v : ℕ) → 1 ≤ v → v ≤ node_count t → good_mark t m v ≡ true
  good_node = (bad_none t m).0 good

  pub root_begins : has_mark m begins 1 ≡ true
  root_begins = sym (good_first t m) ∙ good_node 1 (omega arith) s.count_low

  pub pages_low : 1 ≤ page_count t m
  unfolding page_count
  pages_low = count_to_some (has_mark m begins) (node_count t) 1 (omega arith) s.count_low root_begins

  -- a node that begins no run is not the root
  pub not_root : (v : ℕ) → 1 ≤ v → has_mark m begins v ≡ false → 2 ≤ v
  not_root v low e =
      ⊎_elim (λ q. absurd (true≢false (sym root_begins ∙ ap (has_mark m begins) q ∙ e))) (λ two. two)
      (eq-or-lt_of_le low)
