-- The single planner by node number: the children of a node as members, what the scratch and the marks keep of them,
-- and the cuts.
-- Defines members_at, rest_at, largest_at, EarliestAt, LaidAt. Assumes nothing.
use Prim.Native.Nat.{ℕ, zero, suc, ◌+◌, ◌-◌, ◌≤◌, ◌<◌, max}
use native.Mathlib.Omega.{arith}
use Rattle.std.specs.Prelude.{◌≡◌, ◌⊎◌, length, set, drop, eqb}
use Rattle.std.proofs.Math.Path.{refl, sym, ap, ap₂}
use Rattle.std.proofs.Common.{◌∙◌, inl, inr}
use mathlib.Core.List.{List, [], ◌∷◌, ◌++◌, append_assoc}
use Rattle.std.proofs.Math.Seq.{drop-cons}
use borrow.Author.Tests.{eq-eqb, ne_eqb}
use Rattle.model.specs.Basics.{pick}
use Rattle.model.specs.Table.{first_at, next_at, weight_at, Chain, end, node}
use Rattle.model.specs.Steps.{Member, rest_sum, largest_gain, take_earliest, cut_down, remainders, lay_single, lay_down}
use Rattle.theory.specs.TableNumbered.{Numbered, none, some, numbered_le}
use Rattle.greedy.specs.Kept.{kept, kept_suc, kept_here, kept_other, Same, same_less, same_store}

-- a child whose remainder the scratch keeps, taken where its mark is 1
abbrev member_at : List ℕ → List ℕ → ℕ → Member
member_at s m v = record { rest = kept s v; gain = kept s v; taken = eqb (kept m v) 1 }

-- the siblings from node v on
unfoldable pub members_at : List ℕ → List ℕ → List ℕ → ℕ → Chain → List Member
members_at t s m v end = []
members_at t s m v (node w l kids next) = member_at s m v ∷ members_at t s m (next_at t v) next

unfoldable pub rest_at : List ℕ → List ℕ → ℕ → Chain → ℕ
rest_at t s v end = 0
rest_at t s v (node w l kids next) = kept s v + rest_at t s (next_at t v) next

unfoldable pub largest_at : List ℕ → List ℕ → ℕ → Chain → ℕ
largest_at t s v end = 0
largest_at t s v (node w l kids next) = max (kept s v) (largest_at t s (next_at t v) next)

-- h is the earliest of the siblings from v on that has g
unfoldable pub EarliestAt : List ℕ → List ℕ → ℕ → ℕ → Chain → ℕ → Type 0
EarliestAt t s g v end h = ⊥
EarliestAt t s g v (node w l kids next) h =
    ((h ≡ v) × (kept s v ≡ g)) ⊎ ((kept s v ≡ g → ⊥) × EarliestAt t s g (next_at t v) next h)

-- the marks of the siblings from v on are those of the members, and all below them is laid
unfoldable pub LaidAt : ℕ → List ℕ → List ℕ → ℕ → Chain → List Member → Type 0
LaidAt K t m v end ms = Unit {0}
LaidAt K t m v (node w l kids next) [] = ⊥
LaidAt K t m v (node w l kids next) (x ∷ ms) =
    (kept m v ≡ pick x.taken 1 0) × LaidAt K t m (first_at t v) kids (cut_down K w (remainders K kids))
    × LaidAt K t m (next_at t v) next ms

pub members_rest : (t s m : List ℕ) (v : ℕ) (c : Chain) → rest_sum (members_at t s m v c) ≡ rest_at t s v c
unfolding members_at rest_at rest_sum
members_rest t s m v end = refl
members_rest t s m v (node w l kids next) = ap (λ k. kept s v + k) (members_rest t s m (next_at t v) next)

pub members_largest : (t s m : List ℕ) (v : ℕ) (c : Chain) → largest_gain (members_at t s m v c) ≡ largest_at t s v c
unfolding members_at largest_at largest_gain
members_largest t s m v end = refl
members_largest t s m v (node w l kids next) = ap (λ k. max (kept s v) k) (members_largest t s m (next_at t v) next)

-- no remainder is 0 unless all are
pub largest_some : (t s : List ℕ) (v : ℕ) (c : Chain) → 0 < rest_at t s v c → 0 < largest_at t s v c
unfolding rest_at largest_at
largest_some t s v end h = h
largest_some t s v (node w l kids next) h = go (largest_some t s (next_at t v) next) (kept s v) refl
  where
    go : (0 < rest_at t s (next_at t v) next → 0 < largest_at t s (next_at t v) next) → (k : ℕ) → kept s v ≡ k
        → 0 < max (kept s v) (largest_at t s (next_at t v) next)
    go ih zero e = omega (arith, ih (omega arith))
    go ih (suc k) e = omega arith

-- one of the siblings is no more than their sum
pub earliest_at_rest : (t s : List ℕ) (g v : ℕ) (c : Chain) (h : ℕ) → EarliestAt t s g v c h
    → (kept s h ≡ g) × (g ≤ rest_at t s v c)
unfolding EarliestAt rest_at
earliest_at_rest t s g v end h a = absurd a
earliest_at_rest t s g v (node w l kids next) h (inl p) = (ap (kept s) p.0 ∙ p.1, omega (arith, p.1))
earliest_at_rest t s g v (node w l kids next) h (inr p) =
    let r = earliest_at_rest t s g (next_at t v) next h p.1 in
    (r.0, omega (arith, r.1))

-- ---- What a store changes

module _ {t : List ℕ} where
  pub members_same : {m v e : ℕ} {c : Chain} {s s' a a' : List ℕ} → Numbered t m v c e → Same m e s s' → Same m e a a'
      → members_at t s' a' v c ≡ members_at t s a v c
  unfolding members_at
  members_same none p q = refl
  members_same {s} {s'} {a} {a'} (some {m = m} {e₁ = e₁} {e₂ = e₂} k n) p q =
      let low : e₁ ≤ e₂ = numbered_le n in
      let mid : suc m ≤ e₁ = numbered_le k in
      let here : kept s' (suc m) ≡ kept s (suc m) = p.keeps (suc m) (omega arith) (omega arith) in
      let mark : kept a' (suc m) ≡ kept a (suc m) = q.keeps (suc m) (omega arith) (omega arith) in
      let after =
      members_same n (same_less e₁ e₂ (omega arith) (omega arith) p) (same_less e₁ e₂ (omega arith) (omega arith) q) in
      rw (here, mark, after)

  pub rest_same : {m v e : ℕ} {c : Chain} {s s' : List ℕ} → Numbered t m v c e → Same m e s s'
      → rest_at t s' v c ≡ rest_at t s v c
  unfolding rest_at
  rest_same none p = refl
  rest_same {s} {s'} (some {m = m} {e₁ = e₁} {e₂ = e₂} k n) p =
      let low : e₁ ≤ e₂ = numbered_le n in
      let mid : suc m ≤ e₁ = numbered_le k in
      ap₂ (λ (x y : ℕ). x + y) (p.keeps (suc m) (omega arith) (omega arith))
      (rest_same n (same_less e₁ e₂ (omega arith) (omega arith) p))

  pub laid_same : (K : ℕ) {m v e : ℕ} {c : Chain} {a a' : List ℕ} (ms : List Member) → Numbered t m v c e
      → Same m e a a' → LaidAt K t a v c ms → LaidAt K t a' v c ms
  unfolding LaidAt
  laid_same K ms none q h = tt
  laid_same K [] (some k n) q h = absurd h
  laid_same K {a} {a'} (x ∷ ms) (some {m = m} {e₁ = e₁} {e₂ = e₂} {kids = kids} k n) q h =
      let low : e₁ ≤ e₂ = numbered_le n in
      let mid : suc m ≤ e₁ = numbered_le k in
      let mark : kept a' (suc m) ≡ kept a (suc m) = q.keeps (suc m) (omega arith) (omega arith) in (
        mark ∙ h.0,
        laid_same K (cut_down K (weight_at t (suc m)) (remainders K kids)) k
            (same_less (suc m) e₁ (omega arith) (omega arith) q) h.1,
        laid_same K ms n (same_less e₁ e₂ (omega arith) (omega arith) q) h.2,
      )

  -- the earliest is one of the siblings
  pub earliest_at_range : {m v e : ℕ} {c : Chain} (s : List ℕ) (g h : ℕ) → Numbered t m v c e → EarliestAt t s g v c h
      → (m < h) × (h ≤ e)
  unfolding EarliestAt
  earliest_at_range s g h none a = absurd a
  earliest_at_range s g h (some k n) (inl p) = (omega (arith, p.0), omega (arith, p.0, numbered_le k, numbered_le n))
  earliest_at_range s g h (some k n) (inr p) =
      let r = earliest_at_range s g h n p.1 in
      (omega (arith, r.0, numbered_le k), r.1)

  -- the earliest that has g is cut
  pub cut_members : {m v e : ℕ} {c : Chain} (s a : List ℕ) (g h : ℕ) → Numbered t m v c e → EarliestAt t s g v c h
      → e ≤ length s → e ≤ length a
      → members_at t (set s (h - 1) 0) (set a (h - 1) 1) v c ≡ take_earliest g (members_at t s a v c)
  unfolding EarliestAt members_at take_earliest pick
  cut_members s a g h none p ls la = absurd p
  cut_members s a g h (some {m = m} {e₁ = e₁} {e₂ = e₂} k n) (inl p) ls la =
      let low : e₁ ≤ e₂ = numbered_le n in
      let mid : suc m ≤ e₁ = numbered_le k in
      let at : h ≡ suc m = p.0 in
      let has : kept s (suc m) ≡ g = p.1 in
      let here : kept (set s (h - 1) 0) (suc m) ≡ 0 = kept_here s h (suc m) 0 at (omega arith) (omega arith) in
      let mark : kept (set a (h - 1) 1) (suc m) ≡ 1 = kept_here a h (suc m) 1 at (omega arith) (omega arith) in
      let off : kept s (suc m) - g ≡ 0 = omega arith in
      let after =
      members_same n (same_store e₁ e₂ s h 0 (omega arith) (λ l u. omega arith))
      (same_store e₁ e₂ a h 1 (omega arith) (λ l u. omega arith)) in
      rw (here, mark, after, eq-eqb (kept s (suc m)) g has, off)
  cut_members s a g h (some {m = m} {e₁ = e₁} {e₂ = e₂} k n) (inr p) ls la =
      let low : e₁ ≤ e₂ = numbered_le n in
      let mid : suc m ≤ e₁ = numbered_le k in
      let later = earliest_at_range s g h n p.1 in
      let here : kept (set s (h - 1) 0) (suc m) ≡ kept s (suc m) =
      kept_other s h (suc m) 0 (omega arith) (λ q. omega arith) in
      let mark : kept (set a (h - 1) 1) (suc m) ≡ kept a (suc m) =
      kept_other a h (suc m) 1 (omega arith) (λ q. omega arith) in
      let after = cut_members s a g h n p.1 ls la in
      rw (here, mark, after, ne_eqb (kept s (suc m)) g p.0)

  -- what was cut is off the sum
  pub cut_rest : {m v e : ℕ} {c : Chain} (s : List ℕ) (g h : ℕ) → Numbered t m v c e → EarliestAt t s g v c h
      → e ≤ length s → rest_at t (set s (h - 1) 0) v c + g ≡ rest_at t s v c
  unfolding EarliestAt rest_at
  cut_rest s g h none p ls = absurd p
  cut_rest s g h (some {m = m} {e₁ = e₁} {e₂ = e₂} {next = next} k n) (inl p) ls =
      let low : e₁ ≤ e₂ = numbered_le n in
      let mid : suc m ≤ e₁ = numbered_le k in
      let at : h ≡ suc m = p.0 in
      let has : kept s (suc m) ≡ g = p.1 in
      let here : kept (set s (h - 1) 0) (suc m) ≡ 0 = kept_here s h (suc m) 0 at (omega arith) (omega arith) in
      let after = rest_same n (same_store e₁ e₂ s h 0 (omega arith) (λ l u. omega arith)) in
      omega arith
  cut_rest s g h (some {m = m} {e₁ = e₁} {e₂ = e₂} k n) (inr p) ls =
      let mid : suc m ≤ e₁ = numbered_le k in
      let later = earliest_at_range s g h n p.1 in
      let here : kept (set s (h - 1) 0) (suc m) ≡ kept s (suc m) =
      kept_other s h (suc m) 0 (omega arith) (λ q. omega arith) in
      omega (arith, cut_rest s g h n p.1 ls)

  pub cut_laid : (K : ℕ) {m v e : ℕ} {c : Chain} (s a : List ℕ) (g h : ℕ) → Numbered t m v c e → EarliestAt t s g v c h
      → e ≤ length a → LaidAt K t a v c (members_at t s a v c)
      → LaidAt K t (set a (h - 1) 1) v c (take_earliest g (members_at t s a v c))
  unfolding EarliestAt members_at take_earliest pick LaidAt
  cut_laid K s a g h none p la laid = absurd p
  cut_laid K s a g h (some {m = m} {e₁ = e₁} {e₂ = e₂} {kids = kids} {next = next} k n) (inl p) la laid =
      let low : e₁ ≤ e₂ = numbered_le n in
      let mid : suc m ≤ e₁ = numbered_le k in
      let at : h ≡ suc m = p.0 in
      let has : kept s (suc m) ≡ g = p.1 in
      let mark : kept (set a (h - 1) 1) (suc m) ≡ 1 = kept_here a h (suc m) 1 at (omega arith) (omega arith) in
      rw (eq-eqb (kept s (suc m)) g has) (
        mark,
        laid_same K (cut_down K (weight_at t (suc m)) (remainders K kids)) k
            (same_store (suc m) e₁ a h 1 (omega arith) (λ l u. omega arith)) laid.1,
        laid_same K (members_at t s a (next_at t (suc m)) next) n
            (same_store e₁ e₂ a h 1 (omega arith) (λ l u. omega arith)) laid.2,
      )
  cut_laid K s a g h (some {m = m} {e₁ = e₁} {e₂ = e₂} {kids = kids} {next = next} k n) (inr p) la laid =
      let low : e₁ ≤ e₂ = numbered_le n in
      let mid : suc m ≤ e₁ = numbered_le k in
      let later = earliest_at_range s g h n p.1 in
      let mark : kept (set a (h - 1) 1) (suc m) ≡ kept a (suc m) =
      kept_other a h (suc m) 1 (omega arith) (λ q. omega arith) in
      rw (ne_eqb (kept s (suc m)) g p.0) (
        mark ∙ laid.0,
        laid_same K (cut_down K (weight_at t (suc m)) (remainders K kids)) k
            (same_store (suc m) e₁ a h 1 (omega arith) (λ l u. omega arith)) laid.1,
        cut_laid K s a g h n p.1 la laid.2,
      )

  -- ---- The marks of a laid chain

  pub laid_marks : (K : ℕ) {m v e : ℕ} {c : Chain} (a : List ℕ) (ms : List Member) → Numbered t m v c e → e ≤ length a
      → LaidAt K t a v c ms → drop m a ≡ lay_single K c ms ++ drop e a
  unfolding LaidAt lay_down
  laid_marks K a ms none h laid = refl
  laid_marks K a [] (some k n) h laid = absurd laid
  laid_marks K a (x ∷ ms) (some {m = m} {e₁ = e₁} {e₂ = e₂} {kids = kids} {next = next} k n) h laid =
      let low : e₁ ≤ e₂ = numbered_le n in
      let mid : suc m ≤ e₁ = numbered_le k in
      let below = laid_marks K a (cut_down K (weight_at t (suc m)) (remainders K kids)) k (omega arith) laid.1 in
      let after = laid_marks K a ms n h laid.2 in
      drop-cons a m 0 (omega arith)
      ∙ ap₂ (λ (b : ℕ) (l : List ℕ). b ∷ l) (sym (kept_suc a m) ∙ laid.0)
      (below
      ∙ ap (λ (l : List ℕ). lay_single K kids (cut_down K (weight_at t (suc m)) (remainders K kids)) ++ l) after
      ∙ sym (append_assoc (lay_single K kids (cut_down K (weight_at t (suc m)) (remainders K kids))) (lay_single K next ms)
      (drop e₂ a)))
