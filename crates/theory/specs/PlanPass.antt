-- The page and the parent of a node by one step back, with no bound on the steps, and the weights of the pages up to a
-- node: what a pass over the nodes in their order computes.
-- Defines step_back, weight_to. Proves page_of_none, page_of_step, page_of_le, weight_to_suc, weight_to-on, weight_to_off,
-- parent_at_step. Assumes nothing.
use Rattle.std.specs.Prelude.{ℕ, zero, suc, ◌+◌, ◌-◌, ◌≤◌, ◌<◌, ◌≡◌, refl, ◌⊎◌, List, eqb}
use Rattle.std.proofs.Common.{arith, eq-or-lt_of_le, eq-zero-or-pos, sym, ◌∙◌, ap, inl, inr, eq-eqb, ne_eqb}
use Rattle.model.specs.Basics.{pick, sum_to, count_to}
use Rattle.model.specs.Table.{node_count, weight_at, first_at}
use Rattle.model.specs.Plan.{prev_at, parent_at, has_mark, begins, continues, page_from, page_of}
use Rattle.theory.specs.Ranges.{steps_enough, pick_true, pick_false, pick_both, sum_to_zero, sum_to_suc}
use Rattle.theory.specs.Ranges.{count_to_zero, count_to_le}
use Rattle.theory.specs.TableFacts.{SoundFacts}
use Rattle.theory.specs.TableLinks.{first_step, prev_at_none, prev_at_less, parent_at_none, parent_at_one}
use Rattle.theory.specs.TableLinks.{parent_at_less, parent_at_later, parent_low, parent_first}

-- ---- The step back

-- where a node that begins no run finds its page: at the sibling just before it, or at its parent
abbrev pub step_back : List ℕ → List ℕ → ℕ → ℕ
step_back t m v = pick (has_mark m continues v) (prev_at t v) (parent_at t v)

back_none : (t m : List ℕ) → step_back t m 0 ≡ 0
back_none t m =
    pick_both (λ u. u ≡ 0) (has_mark m continues 0) (prev_at t 0) (parent_at t 0) (prev_at_none t) (parent_at_none t)

pub back_less : (t m : List ℕ) (v : ℕ) → 1 ≤ v → step_back t m v < v
back_less t m v low =
    pick_both (λ u. u < v) (has_mark m continues v) (prev_at t v) (parent_at t v) (prev_at_less t v low)
    (parent_at_less t v low)

-- ---- Pages

page_from_none : (f : ℕ) (t m : List ℕ) → page_from f t m 0 ≡ 0
unfolding page_from
page_from_none zero t m = refl
page_from_none (suc f) t m =
    pick_both (λ p. p ≡ 0) (has_mark m begins 0) (count_to 0 (has_mark m begins)) (page_from f t m (step_back t m 0))
    (count_to_zero (has_mark m begins)) (ap (page_from f t m) (back_none t m) ∙ page_from_none f t m)

-- the page is found with v steps or more
page_from_enough : (t m : List ℕ) (f g v : ℕ) → v ≤ f → v ≤ g → page_from f t m v ≡ page_from g t m v
unfolding page_from
page_from_enough t m =
    steps_enough (λ f v. page_from f t m v) (step_back t m) (back_less t m)
    (λ f g. page_from_none f t m ∙ sym (page_from_none g t m))
    (λ f g v e. ap (pick (has_mark m begins v) (count_to v (has_mark m begins))) e)

pub page_of_none : (t m : List ℕ) → page_of t m 0 ≡ 0
unfolding page_of
page_of_none t m = page_from_none 0 t m

-- a node that begins a run is on a new page, and any other on the page of the node one step back
pub page_of_step : (t m : List ℕ) (v : ℕ) → 1 ≤ v
    → page_of t m v ≡ pick (has_mark m begins v) (count_to v (has_mark m begins)) (page_of t m (step_back t m v))
unfolding page_of page_from
page_of_step t m zero low = absurd (omega arith)
page_of_step t m (suc v) low =
    let less : step_back t m (suc v) < suc v = back_less t m (suc v) low in
    ap (pick (has_mark m begins (suc v)) (count_to (suc v) (has_mark m begins)))
    (page_from_enough t m v (step_back t m (suc v)) (step_back t m (suc v)) (omega arith) (omega arith))

page_from_le : (f : ℕ) (t m : List ℕ) (v : ℕ) → page_from f t m v ≤ v
unfolding page_from
page_from_le zero t m v = omega arith
page_from_le (suc f) t m zero = omega (arith, page_from_none (suc f) t m)
page_from_le (suc f) t m (suc v) =
    pick_both (λ p. p ≤ suc v) (has_mark m begins (suc v)) (count_to (suc v) (has_mark m begins))
    (page_from f t m (step_back t m (suc v)))
    (count_to_le (suc v) (has_mark m begins))
    (omega (arith, page_from_le f t m (step_back t m (suc v)), back_less t m (suc v) (omega arith)))

-- there are no more pages than nodes
pub page_of_le : (t m : List ℕ) (v : ℕ) → page_of t m v ≤ v
unfolding page_of
page_of_le t m v = page_from_le v t m v

-- ---- Weights

-- the weight of those of the nodes 1 to v that the plan has on page p
unfoldable pub weight_to : ℕ → List ℕ → List ℕ → ℕ → ℕ
weight_to v t m p = sum_to v (λ u. pick (eqb (page_of t m u) p) (weight_at t u) 0)

pub weight_to_zero : (t m : List ℕ) (p : ℕ) → weight_to 0 t m p ≡ 0
unfolding weight_to
weight_to_zero t m p = sum_to_zero (λ u. pick (eqb (page_of t m u) p) (weight_at t u) 0)

pub weight_to_suc : (v : ℕ) (t m : List ℕ) (p : ℕ)
    → weight_to (suc v) t m p ≡ weight_to v t m p + pick (eqb (page_of t m (suc v)) p) (weight_at t (suc v)) 0
unfolding weight_to
weight_to_suc v t m p = sum_to_suc v (λ u. pick (eqb (page_of t m u) p) (weight_at t u) 0)

-- one more node adds its weight to its page, and to no other
pub weight_to-on : (v : ℕ) (t m : List ℕ) (p : ℕ) → page_of t m (suc v) ≡ p
    → weight_to (suc v) t m p ≡ weight_to v t m p + weight_at t (suc v)
weight_to-on v t m p e =
    omega (
      arith,
      weight_to_suc v t m p,
      pick_true (eqb (page_of t m (suc v)) p) (weight_at t (suc v)) 0 (eq-eqb (page_of t m (suc v)) p e),
    )

pub weight_to_off : (v : ℕ) (t m : List ℕ) (p : ℕ) → (page_of t m (suc v) ≡ p → ⊥)
    → weight_to (suc v) t m p ≡ weight_to v t m p
weight_to_off v t m p e =
    omega (
      arith,
      weight_to_suc v t m p,
      pick_false (eqb (page_of t m (suc v)) p) (weight_at t (suc v)) 0 (ne_eqb (page_of t m (suc v)) p e),
    )

-- ---- Parents

-- a node with no sibling before it comes just after its parent
pub parent_at_step : {t : List ℕ} → SoundFacts t → (v : ℕ) → 1 ≤ v → v ≤ node_count t
    → parent_at t v ≡ pick (eqb (prev_at t v) 0) (v - 1) (parent_at t (prev_at t v))
parent_at_step {t} s v low high = go (eq-zero-or-pos (prev_at t v))
  where
    before : prev_at t v ≡ 0 → (1 ≡ v) ⊎ (1 < v) → parent_at t v ≡ v - 1
    before z (inl one) = ap (parent_at t) (sym one) ∙ parent_at_one t ∙ omega arith
    before z (inr two) =
        let first : first_at t (parent_at t v) ≡ v = parent_first s v two high z in
        let within : parent_at t v < v = parent_at_less t v low in
        omega (arith, first_step s (parent_at t v) (parent_low s v two high) (omega arith) (omega arith))

    go : (prev_at t v ≡ 0) ⊎ (1 ≤ prev_at t v)
        → parent_at t v ≡ pick (eqb (prev_at t v) 0) (v - 1) (parent_at t (prev_at t v))
    go (inl z) = before z (eq-or-lt_of_le low) ∙ sym (pick_true (eqb (prev_at t v) 0) _ _ (eq-eqb (prev_at t v) 0 z))
    go (inr one) =
        parent_at_later t v low one
        ∙ sym (pick_false (eqb (prev_at t v) 0) _ _ (ne_eqb (prev_at t v) 0 (λ z. omega arith)))
