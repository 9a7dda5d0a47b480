-- The chain of siblings after a node. `Reach t P u v` says: v is u, or comes after it by links to siblings that each
-- satisfy P; `After t u v` asks nothing of them. In a table of sound form it is what `comes_after` tests; it goes by
-- number, two nodes after one or before one are in one order, and all nodes of a chain have one parent. Defines Reach,
-- After, LastLink. Assumes nothing.
use Rattle.std.specs.Prelude.{ℕ, zero, suc, ◌+◌, ◌≤◌, ◌<◌, true, not, ◌&&◌, ◌≡◌, refl, ◌⊎◌, List, eqb}
use Rattle.std.proofs.Common.{arith, sym, subst, ◌∙◌, inl, inr, ⊎_elim, eqb-true, eq-eqb, ne_eqb}
use Rattle.std.proofs.Math.Bool.{or-true}
use Rattle.std.proofs.lemmas.Bool.{eqb-false, not-true}
use Rattle.model.specs.Table.{node_count, next_at}
use Rattle.model.specs.Plan.{prev_at, parent_at}
use Rattle.model.specs.Runs.{comes_from, comes_after}
use Rattle.theory.specs.Bools.{both_true, either_true}
use Rattle.theory.specs.TableFacts.{SoundFacts}
use Rattle.theory.specs.TableLinks.{next_later, next_le, next_one, next_prev, next_parent, prev_at_next}

pub data Reach (t : List ℕ) (P : ℕ → Type 0) : ℕ → ℕ → Type 0 where
  here : {u : ℕ} → Reach t P u u
  step : {u v : ℕ} → 1 ≤ next_at t u → P (next_at t u) → Reach t P (next_at t u) v → Reach t P u v

abbrev pub After : List ℕ → ℕ → ℕ → Type 0
After t = Reach t (λ v. Unit {0})

-- ---- In any table

pub reach_trans : {t : List ℕ} {P : ℕ → Type 0} {u v w : ℕ} → Reach t P u v → Reach t P v w → Reach t P u w
reach_trans here r = r
reach_trans (step a p q) r = step a p (reach_trans q r)

pub reach_after : {t : List ℕ} {P : ℕ → Type 0} {u v : ℕ} → Reach t P u v → After t u v
reach_after here = here
reach_after (step a p r) = step a tt (reach_after r)

pub reach_one : {t : List ℕ} {P : ℕ → Type 0} {u : ℕ} → 1 ≤ next_at t u → P (next_at t u) → Reach t P u (next_at t u)
reach_one a p = step a p here

-- a link to a node, from the sibling just before it
pub reach_prev_one : (t : List ℕ) {P : ℕ → Type 0} (v : ℕ) → 1 ≤ v → 1 ≤ prev_at t v → P v → Reach t P (prev_at t v) v
reach_prev_one t {P} v low one p =
    let q : next_at t (prev_at t v) ≡ v = prev_at_next t v one in
    let link : Reach t P (prev_at t v) (next_at t (prev_at t v)) = reach_one (omega (arith, q)) (subst P (sym q) p) in
    rw q at link

-- the first link, or none
pub reach_first : {t : List ℕ} {P : ℕ → Type 0} {u v : ℕ} → Reach t P u v
    → (u ≡ v) ⊎ ((1 ≤ next_at t u) × P (next_at t u) × Reach t P (next_at t u) v)
reach_first here = inl refl
reach_first (step a p r) = inr (a, p, r)

-- the last link, or none
pub record LastLink (t : List ℕ) (P : ℕ → Type 0) (u v : ℕ) : Type 0 where
  pub from : ℕ
  pub low : 1 ≤ v
  pub link : next_at t from ≡ v
  pub passed : P v
  pub reach : Reach t P u from

pub reach_last : {t : List ℕ} {P : ℕ → Type 0} {u v : ℕ} → Reach t P u v → (u ≡ v) ⊎ LastLink t P u v
reach_last here = inl refl
reach_last {t} {P} {u} {v} (step a p r) = go (reach_last r)
  where
    go : (next_at t u ≡ v) ⊎ LastLink t P (next_at t u) v → (u ≡ v) ⊎ LastLink t P u v
    go (inl e) = inr (record { from = u; low = rw e at a; link = e; passed = rw e at p; reach = here })
    go (inr b) =
        inr (record { from = b.from; low = b.low; link = b.link; passed = b.passed; reach = step a p b.reach })

-- of two nodes after one, one comes after the other
pub reach_total : {t : List ℕ} {P Q : ℕ → Type 0} {w u v : ℕ} → Reach t P w u → Reach t Q w v
    → Reach t Q u v ⊎ Reach t P v u
reach_total here r = inl r
reach_total (step a p q) here = inr (step a p q)
reach_total (step a p q) (step a' p' q') = reach_total q q'

-- the node where the reach stops is one, and all nodes of the reach come up to it
pub reach_stop_one : {t : List ℕ} {P : ℕ → Type 0} {u w w' : ℕ} → Reach t P u w → Reach t P u w'
    → (1 ≤ next_at t w → P (next_at t w) → ⊥) → (1 ≤ next_at t w' → P (next_at t w') → ⊥) → w ≡ w'
reach_stop_one here here h h' = refl
reach_stop_one here (step a p r) h h' = absurd (h a p)
reach_stop_one (step a p r) here h h' = absurd (h' a p)
reach_stop_one (step a p r) (step a' p' r') h h' = reach_stop_one r r' h h'

pub reach_stop : {t : List ℕ} {P : ℕ → Type 0} {u v w : ℕ} → Reach t P u v → Reach t P u w
    → (1 ≤ next_at t w → P (next_at t w) → ⊥)
    → Reach t P v w
reach_stop here r h = r
reach_stop (step a p r) here h = absurd (h a p)
reach_stop (step a p r) (step a' p' r') h = reach_stop r r' h

-- ---- The test of any table

comes_from_here : (f : ℕ) (t : List ℕ) (u v : ℕ) → u ≡ v → comes_from f t u v ≡ true
unfolding comes_from
comes_from_here zero t u v e = eq-eqb u v e
comes_from_here (suc f) t u v e = rw (eq-eqb u v e)

comes_from_step : (f : ℕ) (t : List ℕ) (u v : ℕ) → 1 ≤ next_at t u → comes_from f t (next_at t u) v ≡ true
    → comes_from (suc f) t u v ≡ true
unfolding comes_from
comes_from_step f t u v a e = rw (ne_eqb (next_at t u) 0 (λ z. omega arith), e, or-true)

-- where the test passes, v is u or comes after it
comes_from-after : (f : ℕ) (t : List ℕ) (u v : ℕ) → comes_from f t u v ≡ true → After t u v
unfolding comes_from
comes_from-after zero t u v e = rw (eqb-true u v e) here
comes_from-after (suc f) t u v e =
    ⊎_elim (λ q. rw (eqb-true u v q) here)
    (λ q.
    let both = both_true (not (eqb (next_at t u) 0)) (comes_from f t (next_at t u) v) q in
    let other : next_at t u ≡ 0 → ⊥ = eqb-false (next_at t u) 0 (not-true (eqb (next_at t u) 0) both.0) in
    let one : 1 ≤ next_at t u = omega arith in
    step one tt (comes_from-after f t (next_at t u) v both.1))
    (either_true (eqb u v) (not (eqb (next_at t u) 0) && comes_from f t (next_at t u) v) e)

pub comes_after-after : (t : List ℕ) (u v : ℕ) → comes_after t u v ≡ true → After t u v
unfolding comes_after
comes_after-after t u v e = comes_from-after (node_count t) t u v e

-- ---- In a table of sound form

module _ {t : List ℕ} (s : SoundFacts t) where
  pub reach_le : {P : ℕ → Type 0} {u v : ℕ} → Reach t P u v → 1 ≤ u → u ≤ node_count t → (u ≤ v) × (v ≤ node_count t)
  reach_le here low high = (omega arith, high)
  reach_le {P} {u} (step a p r) low high =
      let rest = reach_le r a (next_le s u low high) in (omega (arith, next_later s u low high a, rest.0), rest.1)

  -- the sibling just before
  pub reach_prev : {P : ℕ → Type 0} {u v : ℕ} → Reach t P u v → 1 ≤ u → u ≤ node_count t
      → (u ≡ v) ⊎ ((1 ≤ prev_at t v) × P v × Reach t P u (prev_at t v))
  reach_prev {P} {u} {v} r low high = go (reach_last r)
    where
      go : (u ≡ v) ⊎ LastLink t P u v → (u ≡ v) ⊎ ((1 ≤ prev_at t v) × P v × Reach t P u (prev_at t v))
      go (inl e) = inl e
      go (inr b) =
          let range = reach_le b.reach low high in
          let same : prev_at t v ≡ b.from =
          next_prev s b.from v (omega (arith, range.0)) range.1 b.low b.link in
          inr (omega (arith, range.0), b.passed, rw same b.reach)

  -- of two nodes before one, one comes after the other
  pub reach_common : {P Q : ℕ → Type 0} {u v w : ℕ} → Reach t P u w → Reach t Q v w → 1 ≤ u → u ≤ node_count t → 1 ≤ v
      → v ≤ node_count t
      → Reach t P u v ⊎ Reach t Q v u
  reach_common here r low high low' high' = inr r
  reach_common {P} {Q} {u} {v} {w} (step a p q) r low high low' high' =
      go (reach_common q r a (next_le s u low high) low' high')
    where
      go : Reach t P (next_at t u) v ⊎ Reach t Q v (next_at t u) → Reach t P u v ⊎ Reach t Q v u
      go (inl x) = inl (step a p x)
      go (inr x) = back (reach_last x)
        where
          back : (v ≡ next_at t u) ⊎ LastLink t Q v (next_at t u) → Reach t P u v ⊎ Reach t Q v u
          back (inl e) = inl (rw e (reach_one a p))
          back (inr b) =
              let range = reach_le b.reach low' high' in
              let same : b.from ≡ u =
              next_one s b.from u (omega (arith, range.0)) range.1 low high (omega (arith, b.link, a))
              b.link in
              inr (rw same at b.reach)

  -- the nodes between two of a reach are of it
  pub reach_between : {P : ℕ → Type 0} {u v w : ℕ} → Reach t P u w → After t u v → After t v w → 1 ≤ u → u ≤ node_count t
      → Reach t P u v
  reach_between {P} {u} {v} here r r' low high =
      let a = reach_le r low high in
      let b = reach_le r' (omega (arith, a.0)) a.1 in
      let same : v ≡ u = omega (arith, a.0, b.0) in
      rw same here
  reach_between {P} {u} {v} {w} (step a p q) r r' low high =
      go (reach_first r) (λ x. reach_between q x r' a (next_le s u low high))
    where
      go : (u ≡ v) ⊎ ((1 ≤ next_at t u) × Unit {0} × After t (next_at t u) v)
          → (After t (next_at t u) v → Reach t P (next_at t u) v)
          → Reach t P u v
      go (inl e) ih = rw (← e) here
      go (inr x) ih = step a p (ih x.2)

  pub reach_parent : {P : ℕ → Type 0} {u v : ℕ} → Reach t P u v → 1 ≤ u → u ≤ node_count t → parent_at t v ≡ parent_at t u
  reach_parent here low high = refl
  reach_parent {P} {u} (step a p r) low high =
      reach_parent r a (next_le s u low high) ∙ next_parent s u (next_at t u) low high a refl

  -- the test follows as many links as there are
  after-comes_from : {u v : ℕ} (f : ℕ) → After t u v → 1 ≤ u → u ≤ node_count t → node_count t ≤ f + u
      → comes_from f t u v ≡ true
  after-comes_from {u} f here low high enough = comes_from_here f t u u refl
  after-comes_from {u} zero (step a p r) low high enough =
      absurd (omega (arith, next_later s u low high a, next_le s u low high))
  after-comes_from {u} {v} (suc f) (step a p r) low high enough =
      let later : u < next_at t u = next_later s u low high a in
      comes_from_step f t u v a (after-comes_from f r a (next_le s u low high) (omega arith))

  pub after-comes_after : {u v : ℕ} → After t u v → 1 ≤ u → u ≤ node_count t → comes_after t u v ≡ true
  unfolding comes_after
  after-comes_after r low high = after-comes_from (node_count t) r low high (omega arith)
