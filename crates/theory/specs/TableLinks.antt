-- The links of a table of sound form: a first child is the next node, a sibling comes later, each node but the root is
-- linked to by one earlier node and in one way. The sibling just before a node, and its parent, are what the links say.
-- Assumes nothing.
use Rattle.std.specs.Prelude.{ℕ, zero, suc, ◌-◌, ◌≤◌, ◌<◌, ◌≡◌, refl, ◌⊎◌, List}
use Rattle.std.proofs.Common.{arith, eq-or-lt_of_le, eq-zero-or-pos, ◌∙◌, ap, inl, inr, ⊎_elim}
use Rattle.std.proofs.Math.Path.{sym}
use Rattle.std.proofs.Math.Dec.{eqb}
use borrow.Author.Tests.{eqb-true, eqb-false, eq-eqb, ne_eqb}
use Rattle.model.specs.Basics.{pick}
use Rattle.model.specs.Table.{node_count, first_at, next_at, Chain}
use Rattle.model.specs.Plan.{prev_at, owner_at, parent_from, parent_at}
use Rattle.theory.specs.Bools.{bool_cases}
use Rattle.theory.specs.Ranges.{Upto, order_cases, by_earlier, steps_enough, pick_true, pick_false, last_to_zero}
use Rattle.theory.specs.Ranges.{last_to_le, last_to_none, last_to_only, last_to_at}
use Rattle.theory.specs.TableFacts.{SoundFacts}
use Rattle.theory.specs.TableNumbered.{Numbered, none, some, numbered_le, Between, between_join, sound_tree}

-- ---- Within a numbering

-- the links of node u, whose last node below it is last, where e is the last number
record NodeLinks (t : List ℕ) (e u : ℕ) : Type 0 where
  last : ℕ
  low : u ≤ last
  high : last ≤ e
  first_step : 1 ≤ first_at t u → first_at t u ≡ suc u
  next_step : 1 ≤ next_at t u → next_at t u ≡ suc last
  next_high : next_at t u ≤ e
  first_below : (x : ℕ) → u ≤ x → x ≤ last → first_at t x ≤ last
  next_below : (x : ℕ) → u < x → x ≤ last → next_at t x ≤ last

links_more : {t : List ℕ} {e e' u : ℕ} → e ≤ e' → NodeLinks t e u → NodeLinks t e' u
links_more h l =
    record {
      last = l.last;
      low = l.low;
      high = omega (arith, l.high);
      first_step = l.first_step;
      next_step = l.next_step;
      next_high = omega (arith, l.next_high);
      first_below = l.first_below;
      next_below = l.next_below;
    }

-- a link that is not 0 is the number after m, and at most e
pub entry_step : {t : List ℕ} {m v e : ℕ} {c : Chain} → Numbered t m v c e → 1 ≤ v → v ≡ suc m
entry_step none low = absurd (omega arith)
entry_step (some k s) low = refl

entry_high : {t : List ℕ} {m v e : ℕ} {c : Chain} → Numbered t m v c e → v ≤ e
entry_high none = omega arith
entry_high (some k s) = omega (arith, numbered_le k, numbered_le s)

numbered_links : {t : List ℕ} {m v e : ℕ} {c : Chain} → Numbered t m v c e → Between m e (NodeLinks t e)
numbered_links none = λ u low high. absurd (omega arith)
numbered_links {t} (some {m = m} {e₁ = e₁} {e₂ = e₂} k s) =
    let kids = numbered_links k in
    between_join (NodeLinks t e₂) m e₁ e₂
    (record {
      last = e₁;
      low = numbered_le k;
      high = numbered_le s;
      first_step = entry_step k;
      next_step = entry_step s;
      next_high = entry_high s;
      first_below = λ x a b. ⊎_elim (λ q. rw (← q) (entry_high k))
          (λ l. let f = kids x l b in omega (arith, f.first_below x (omega arith) f.low, f.high))
          (eq-or-lt_of_le a);
      next_below = λ x a b. (kids x a b).next_high;
    })
    (λ u low high. links_more (numbered_le s) (kids u low high))
    (numbered_links s)

-- the node that links to v, after m and before v
pub record Source (t : List ℕ) (m v : ℕ) : Type 0 where
  pub from : ℕ
  pub low : m < from
  pub earlier : from < v
  pub link : (first_at t from ≡ v) ⊎ (next_at t from ≡ v)

source_less : {t : List ℕ} {m m' v : ℕ} → m ≤ m' → Source t m' v → Source t m v
source_less h f = record { from = f.from; low = omega (arith, f.low); earlier = f.earlier; link = f.link }

numbered_source : {t : List ℕ} {m v e : ℕ} {c : Chain} → Numbered t m v c e
    → Between m e (λ u. (u ≡ v → ⊥) → Source t m u)
numbered_source none = λ u low high. absurd (omega arith)
numbered_source {t} (some {m = m} {e₁ = e₁} {e₂ = e₂} k s) =
    let kids = numbered_source k in
    let rest = numbered_source s in
    between_join (λ u. (u ≡ suc m → ⊥) → Source t m u) m e₁ e₂
    (λ other. absurd (other refl))
    (λ u low high other.
    ⊎_elim
    (λ q. record {
      from = suc m;
      low = omega arith;
      earlier = low;
      link = inl
          (sym (eqb-true u (first_at t (suc m)) q));
    })
    (λ q. source_less (omega arith) (kids u low high (eqb-false u (first_at t (suc m)) q)))
    (bool_cases (eqb u (first_at t (suc m)))))
    (λ u low high other.
    let below : suc m ≤ e₁ = numbered_le k in
    ⊎_elim
    (λ q.
    record {
      from = suc m;
      low = omega arith;
      earlier = omega arith;
      link = inr
          (sym (eqb-true u (next_at t (suc m)) q));
    })
    (λ q. source_less (omega arith) (rest u low high (eqb-false u (next_at t (suc m)) q)))
    (bool_cases (eqb u (next_at t (suc m)))))

-- ---- The links of a table of sound form

module _ {t : List ℕ} (s : SoundFacts t) where
  node_links : Upto (node_count t) (NodeLinks t (node_count t))
  node_links v low high = numbered_links (sound_tree s) v low high

  -- a first child is the next node
  pub first_step : (v : ℕ) → 1 ≤ v → v ≤ node_count t → 1 ≤ first_at t v → first_at t v ≡ suc v
  first_step v low high a = (node_links v low high).first_step a

  pub first_le : (v : ℕ) → 1 ≤ v → v ≤ node_count t → first_at t v ≤ node_count t
  first_le v low high =
      let l = node_links v low high in omega (arith, l.first_below v (omega arith) l.low, l.high)

  pub first_cases : (v : ℕ) → 1 ≤ v → v ≤ node_count t
      → (first_at t v ≡ 0) ⊎ ((first_at t v ≡ suc v) × (suc v ≤ node_count t))
  first_cases v low high =
      ⊎_elim inl
      (λ one. inr (first_step v low high one, omega (arith, first_step v low high one, first_le v low high)))
      (eq-zero-or-pos (first_at t v))

  -- the sibling after a node comes later
  pub next_later : (v : ℕ) → 1 ≤ v → v ≤ node_count t → 1 ≤ next_at t v → v < next_at t v
  next_later v low high a = let l = node_links v low high in omega (arith, l.next_step a, l.low)

  pub next_le : (v : ℕ) → 1 ≤ v → v ≤ node_count t → next_at t v ≤ node_count t
  next_le v low high = (node_links v low high).next_high

  pub next_cases : (v : ℕ) → 1 ≤ v → v ≤ node_count t
      → (next_at t v ≡ 0) ⊎ ((v < next_at t v) × (next_at t v ≤ node_count t))
  next_cases v low high =
      ⊎_elim inl (λ one. inr (next_later v low high one, next_le v low high)) (eq-zero-or-pos (next_at t v))

  -- one node has v as its first child, one as the sibling after it, and not both
  pub first_one : (u u' : ℕ) → 1 ≤ u → u ≤ node_count t → 1 ≤ u' → u' ≤ node_count t → 1 ≤ first_at t u
      → first_at t u ≡ first_at t u' → u ≡ u'
  first_one u u' low high low' high' a q =
      omega (arith, first_step u low high a, first_step u' low' high' (omega arith))

  pub next_one : (u u' : ℕ) → 1 ≤ u → u ≤ node_count t → 1 ≤ u' → u' ≤ node_count t → 1 ≤ next_at t u
      → next_at t u ≡ next_at t u' → u ≡ u'
  next_one u u' low high low' high' a q = by (order_cases u u')
    where
      apart : (v w : ℕ) → 1 ≤ v → v < w → w ≤ node_count t → 1 ≤ next_at t v → next_at t v ≡ next_at t w → ⊥
      apart v w one less top b e =
          let l = node_links v one (omega arith) in
          let later : w < next_at t w = next_later w (omega arith) top (omega arith) in
          omega (arith, l.next_step b, l.next_below w less (omega (arith, l.next_step b)))

      by : (u < u') ⊎ ((u ≡ u') ⊎ (u' < u)) → u ≡ u'
      by (inl h) = absurd (apart u u' low h high' a q)
      by (inr (inl e)) = e
      by (inr (inr h)) = absurd (apart u' u low' h high (omega arith) (sym q))

  pub first_not_next : (u u' : ℕ) → 1 ≤ u → u ≤ node_count t → 1 ≤ u' → u' ≤ node_count t → 1 ≤ first_at t u
      → first_at t u ≡ next_at t u' → ⊥
  first_not_next u u' low high low' high' a q =
      let l = node_links u' low' high' in
      let step : first_at t u ≡ suc u = first_step u low high a in
      let end : u ≡ l.last = omega (arith, l.next_step (omega arith)) in
      omega (arith, l.first_below u (omega (arith, l.low)) (omega arith))

  -- every other node is linked to
  pub linked : (v : ℕ) → 2 ≤ v → v ≤ node_count t → Source t 0 v
  linked v low high = numbered_source (sound_tree s) v (omega arith) high (λ q. omega arith)

-- ---- Siblings and parents of any table

-- there is no node 0
pub prev_at_none : (t : List ℕ) → prev_at t 0 ≡ 0
unfolding prev_at
prev_at_none t = last_to_zero (λ u. eqb (next_at t u) 0)

owner_at_none : (t : List ℕ) → owner_at t 0 ≡ 0
unfolding owner_at
owner_at_none t = last_to_zero (λ u. eqb (first_at t u) 0)

pub parent_at_none : (t : List ℕ) → parent_at t 0 ≡ 0
unfolding parent_at parent_from
parent_at_none t = refl

pub prev_at_one : (t : List ℕ) → prev_at t 1 ≡ 0
unfolding prev_at
prev_at_one t = last_to_zero (λ u. eqb (next_at t u) 1)

owner_at_one : (t : List ℕ) → owner_at t 1 ≡ 0
unfolding owner_at
owner_at_one t = last_to_zero (λ u. eqb (first_at t u) 1)

pub prev_at_less : (t : List ℕ) (v : ℕ) → 1 ≤ v → prev_at t v < v
unfolding prev_at
prev_at_less t v low = omega (arith, last_to_le (v - 1) (λ u. eqb (next_at t u) v))

owner_at_less : (t : List ℕ) (v : ℕ) → 1 ≤ v → owner_at t v < v
unfolding owner_at
owner_at_less t v low = omega (arith, last_to_le (v - 1) (λ u. eqb (first_at t u) v))

-- the sibling just before v has v just after it
pub prev_at_next : (t : List ℕ) (v : ℕ) → 1 ≤ prev_at t v → next_at t (prev_at t v) ≡ v
unfolding prev_at
prev_at_next t v low =
    eqb-true (next_at t (prev_at t v)) v (last_to_at (v - 1) (prev_at t v) (λ u. eqb (next_at t u) v) refl low).passed

owner_at-first : (t : List ℕ) (v : ℕ) → 1 ≤ owner_at t v → first_at t (owner_at t v) ≡ v
unfolding owner_at
owner_at-first t v low =
    eqb-true (first_at t (owner_at t v)) v (last_to_at (v - 1) (owner_at t v) (λ u. eqb (first_at t u) v) refl low).passed

parent_from-first : (f : ℕ) (t : List ℕ) (v : ℕ) → prev_at t v ≡ 0 → parent_from (suc f) t v ≡ owner_at t v
unfolding parent_from
parent_from-first f t v z =
    pick_true (eqb (prev_at t v) 0) (owner_at t v) (parent_from f t (prev_at t v)) (eq-eqb (prev_at t v) 0 z)

parent_from_later : (f : ℕ) (t : List ℕ) (v : ℕ) → 1 ≤ prev_at t v → parent_from (suc f) t v ≡ parent_from f t (prev_at t v)
unfolding parent_from
parent_from_later f t v low =
    pick_false (eqb (prev_at t v) 0) (owner_at t v) (parent_from f t (prev_at t v))
    (ne_eqb (prev_at t v) 0 (λ z. omega arith))

parent_from_none : (f : ℕ) (t : List ℕ) → parent_from f t 0 ≡ 0
unfolding parent_from
parent_from_none zero t = refl
parent_from_none (suc f) t = parent_from-first f t 0 (prev_at_none t) ∙ owner_at_none t

-- the parent is found with v steps or more
parent_from_enough : (t : List ℕ) (f g v : ℕ) → v ≤ f → v ≤ g → parent_from f t v ≡ parent_from g t v
unfolding parent_from
parent_from_enough t =
    steps_enough (λ f v. parent_from f t v) (prev_at t) (prev_at_less t)
    (λ f g. parent_from_none f t ∙ sym (parent_from_none g t))
    (λ f g v e. ap (pick (eqb (prev_at t v) 0) (owner_at t v)) e)

-- the parent of a node with no sibling before it, and of one with some
parent_at-first : (t : List ℕ) (v : ℕ) → 1 ≤ v → prev_at t v ≡ 0 → parent_at t v ≡ owner_at t v
unfolding parent_at
parent_at-first t zero low z = absurd (omega arith)
parent_at-first t (suc v) low z = parent_from-first v t (suc v) z

pub parent_at_later : (t : List ℕ) (v : ℕ) → 1 ≤ v → 1 ≤ prev_at t v → parent_at t v ≡ parent_at t (prev_at t v)
unfolding parent_at
parent_at_later t zero low one = absurd (omega arith)
parent_at_later t (suc v) low one =
    let less : prev_at t (suc v) < suc v = prev_at_less t (suc v) low in
    parent_from_later v t (suc v) one
    ∙ parent_from_enough t v (prev_at t (suc v)) (prev_at t (suc v)) (omega arith) (omega arith)

pub parent_at_one : (t : List ℕ) → parent_at t 1 ≡ 0
parent_at_one t = parent_at-first t 1 (omega arith) (prev_at_one t) ∙ owner_at_one t

pub parent_at_less : (t : List ℕ) (v : ℕ) → 1 ≤ v → parent_at t v < v
parent_at_less t =
    by_earlier (λ v. 1 ≤ v → parent_at t v < v) (λ v earlier low. go v earlier low (eq-zero-or-pos (prev_at t v)))
  where
    go : (v : ℕ) → ((u : ℕ) → u < v → 1 ≤ u → parent_at t u < u) → 1 ≤ v → (prev_at t v ≡ 0) ⊎ (1 ≤ prev_at t v)
        → parent_at t v < v
    go v earlier low (inl z) = omega (arith, parent_at-first t v low z, owner_at_less t v low)
    go v earlier low (inr one) =
        let less : prev_at t v < v = prev_at_less t v low in
        omega (arith, parent_at_later t v low one, earlier (prev_at t v) less one)

-- ---- Siblings and parents of a table of sound form

module _ {t : List ℕ} (s : SoundFacts t) where
  pub next_prev : (u v : ℕ) → 1 ≤ u → u ≤ node_count t → 1 ≤ v → next_at t u ≡ v → prev_at t v ≡ u
  unfolding prev_at
  next_prev u v low high one q =
      last_to_only (v - 1) u (λ w. eqb (next_at t w) v) low
      (omega (arith, next_later s u low high (omega arith)))
      (eq-eqb (next_at t u) v q)
      (λ w low' high' e.
      let same : next_at t w ≡ v = eqb-true (next_at t w) v e in
      next_one s w u low' (omega (arith, next_le s u low high)) low high (omega arith) (same ∙ sym q))

  pub first_prev : (u v : ℕ) → 1 ≤ u → u ≤ node_count t → 1 ≤ v → first_at t u ≡ v → prev_at t v ≡ 0
  unfolding prev_at
  first_prev u v low high one q =
      last_to_none (v - 1) (λ w. eqb (next_at t w) v)
      (λ w low' high'.
      ne_eqb (next_at t w) v
      (λ e. first_not_next s u w low high low' (omega (arith, first_le s u low high)) (omega arith) (q ∙ sym e)))

  first_owner : (u v : ℕ) → 1 ≤ u → u ≤ node_count t → 1 ≤ v → first_at t u ≡ v → owner_at t v ≡ u
  unfolding owner_at
  first_owner u v low high one q =
      last_to_only (v - 1) u (λ w. eqb (first_at t w) v) low
      (omega (arith, first_step s u low high (omega arith)))
      (eq-eqb (first_at t u) v q)
      (λ w low' high' e.
      let same : first_at t w ≡ v = eqb-true (first_at t w) v e in
      first_one s w u low' (omega (arith, first_le s u low high)) low high (omega arith) (same ∙ sym q))

  pub next_parent : (u v : ℕ) → 1 ≤ u → u ≤ node_count t → 1 ≤ v → next_at t u ≡ v → parent_at t v ≡ parent_at t u
  next_parent u v low high one q =
      let before : prev_at t v ≡ u = next_prev u v low high one q in
      parent_at_later t v one (omega arith) ∙ ap (parent_at t) before

  pub first_parent : (u v : ℕ) → 1 ≤ u → u ≤ node_count t → 1 ≤ v → first_at t u ≡ v → parent_at t v ≡ u
  first_parent u v low high one q =
      parent_at-first t v one (first_prev u v low high one q) ∙ first_owner u v low high one q

  -- every node but the root has a parent
  pub parent_low : (v : ℕ) → 2 ≤ v → v ≤ node_count t → 1 ≤ parent_at t v
  parent_low =
      by_earlier (λ v. 2 ≤ v → v ≤ node_count t → 1 ≤ parent_at t v)
      (λ v earlier low high. let src = linked s v low high in go v earlier low high src src.link)
    where
      go : (v : ℕ) → ((u : ℕ) → u < v → 2 ≤ u → u ≤ node_count t → 1 ≤ parent_at t u) → 2 ≤ v → v ≤ node_count t
          → (src : Source t 0 v) → (first_at t src.from ≡ v) ⊎ (next_at t src.from ≡ v) → 1 ≤ parent_at t v
      go v earlier low high src (inl q) =
          omega (arith, first_parent src.from v src.low (omega (arith, src.earlier)) (omega arith) q, src.low)
      go v earlier low high src (inr q) =
          let u : ℕ = src.from in
          let within : u ≤ node_count t = omega (arith, src.earlier) in
          let other : u ≡ 1 → ⊥ = λ e. omega (arith, ap (next_at t) e, s.root_alone, q) in
          omega (
            arith,
            next_parent u v src.low within (omega arith) q,
            earlier u src.earlier (omega (arith, src.low)) within,
          )

  -- a node with no sibling before it is the first child of its parent
  pub parent_first : (v : ℕ) → 2 ≤ v → v ≤ node_count t → prev_at t v ≡ 0 → first_at t (parent_at t v) ≡ v
  parent_first v low high z =
      let same : parent_at t v ≡ owner_at t v = parent_at-first t v (omega arith) z in
      let one : 1 ≤ owner_at t v = omega (arith, parent_low v low high) in
      ap (first_at t) same ∙ owner_at-first t v one
