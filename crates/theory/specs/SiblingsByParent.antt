-- Siblings of a table of sound form: a later node with the same parent comes after it in the chain (sibling_after). So
-- the next sibling of a node is the next node with its parent (next_by_parent), and its first child is the node after
-- it where that has it for its parent (first_by_parent). Assumes nothing.
use Rattle.std.specs.Prelude.{ℕ, suc, ◌+◌, ◌≤◌, ◌<◌, Bool, true, false, ◌&&◌, ◌≡◌, refl, ◌⊎◌, List, eqb, ltb}
use Rattle.std.proofs.Common.{arith, eq-zero-or-pos, sym, ◌∙◌, ap, inl, inr, eqb-true, eq-eqb, ltb-true, lt-ltb}
use Rattle.model.specs.Basics.{pick, at_place, first_to}
use Rattle.model.specs.Table.{node_count, first_at, next_at}
use Rattle.model.specs.Plan.{prev_at, parent_at}
use Rattle.theory.specs.Bools.{bool_cases, and_true, and_false_left, and_false_right, both_true}
use Rattle.theory.specs.Ranges.{order_cases, by_earlier, pick_true, pick_false, at_place_at, at_place_nowhere}
use Rattle.theory.specs.Ranges.{first_to_none, first_to-first}
use Rattle.theory.specs.TableFacts.{SoundFacts}
use Rattle.theory.specs.SiblingChains.{After, reach_first, reach_prev_one, reach_trans, reach_le}
use Rattle.theory.specs.TableLinks.{Source, next_le, first_step, first_cases, next_cases, linked, prev_at_less}
use Rattle.theory.specs.TableLinks.{prev_at_next, parent_at_later, parent_at_less, next_parent, first_parent}
use Rattle.theory.specs.TableLinks.{parent_low, parent_first}

module _ {t : List ℕ} (s : SoundFacts t) where
  abbrev Follows : ℕ → ℕ → Type 0
  Follows v u = (1 ≤ next_at t v) × (next_at t v ≤ u)

  follows : (v u : ℕ) → 1 ≤ v → v ≤ node_count t → v < u → After t v u → Follows v u
  follows v u low high less r = go (reach_first r)
    where
      go : (v ≡ u) ⊎ ((1 ≤ next_at t v) × Unit {0} × After t (next_at t v) u) → Follows v u
      go (inl e) = absurd (omega arith)
      go (inr x) = (x.0, (reach_le s x.2 x.0 (next_le s v low high)).0)

  abbrev AfterSiblings : ℕ → Type 0
  AfterSiblings u = (v : ℕ) → 1 ≤ v → v < u → u ≤ node_count t → parent_at t v ≡ parent_at t u → After t v u

  -- a node with no sibling before it, and one with some
  after_turn : (u : ℕ) → ((w : ℕ) → w < u → AfterSiblings w) → (prev_at t u ≡ 0) ⊎ (1 ≤ prev_at t u) → AfterSiblings u
  after_turn u earlier (inl z) v low less high same =
      let first : first_at t (parent_at t u) ≡ u = parent_first s u (omega arith) high z in
      let one : 1 ≤ parent_at t u = parent_low s u (omega arith) high in
      let step = first_step s (parent_at t u) one (omega (arith, parent_at_less t u (omega arith))) (omega arith) in
      absurd (omega (arith, parent_at_less t v low))
  after_turn u earlier (inr one) v low less high same = by (order_cases v w)
    where
      w : ℕ
      w = prev_at t u

      before : w < u
      before = prev_at_less t u (omega arith)

      p : parent_at t u ≡ parent_at t w
      p = parent_at_later t u (omega arith) one

      by : (v < w) ⊎ ((v ≡ w) ⊎ (w < v)) → After t v u
      by (inl h) =
          reach_trans (earlier w before v low h (omega (arith, before)) (same ∙ p))
          (reach_prev_one t u (omega arith) one tt)
      by (inr (inl e)) = rw e (reach_prev_one t u (omega arith) one tt)
      by (inr (inr h)) =
          let r = follows w v one (omega arith) h (earlier v less w one h (omega arith) (sym p ∙ sym same)) in
          absurd (omega (arith, r.1, prev_at_next t u one))

  -- a later sibling comes after it in the chain
  pub sibling_after : (v u : ℕ) → 1 ≤ v → v < u → u ≤ node_count t → parent_at t v ≡ parent_at t u → After t v u
  sibling_after v u = by_earlier AfterSiblings (λ x earlier. after_turn x earlier (eq-zero-or-pos (prev_at t x))) u v

  -- and so is the next sibling or comes after that
  sibling_next : (v u : ℕ) → 1 ≤ v → v < u → u ≤ node_count t → parent_at t v ≡ parent_at t u → Follows v u
  sibling_next v u low less high same = follows v u low (omega arith) less (sibling_after v u low less high same)

  -- ---- First child and next sibling, from parents alone

  -- the node after v, if it has v for its parent
  pub first_by_parent : (v : ℕ) → 1 ≤ v → v ≤ node_count t
      → pick (ltb v (node_count t) && eqb (parent_at t (v + 1)) v) (v + 1) 0 ≡ first_at t v
  first_by_parent v low high = go (first_cases s v low high) (bool_cases test)
    where
      test : Bool
      test = ltb v (node_count t) && eqb (parent_at t (v + 1)) v

      by_source : v < node_count t → parent_at t (v + 1) ≡ v → first_at t v ≡ 0 → Source t 0 (v + 1) → ⊥
      by_source less p z src = by_link src.link
        where
          within : src.from ≤ node_count t
          within = omega (arith, src.earlier)

          by_link : (first_at t src.from ≡ v + 1) ⊎ (next_at t src.from ≡ v + 1) → ⊥
          by_link (inl q) =
              let step = first_step s src.from src.low within (omega arith) in
              let here : src.from ≡ v = omega arith in
              omega (arith, ap (first_at t) here)
          by_link (inr q) =
              let up = next_parent s src.from (v + 1) src.low within (omega arith) q in
              omega (arith, parent_at_less t src.from src.low, src.earlier)

      go : (first_at t v ≡ 0) ⊎ ((first_at t v ≡ suc v) × (suc v ≤ node_count t)) → (test ≡ true) ⊎ (test ≡ false)
          → pick test (v + 1) 0 ≡ first_at t v
      go (inl z) (inl e) =
          let both = both_true (ltb v (node_count t)) (eqb (parent_at t (v + 1)) v) e in
          let less = ltb-true v (node_count t) both.0 in
          let source = linked s (v + 1) (omega arith) (omega arith) in
          absurd (by_source less (eqb-true (parent_at t (v + 1)) v both.1) z source)
      go (inl z) (inr e) = pick_false test (v + 1) 0 e ∙ sym z
      go (inr q) b =
          let up : v + 1 ≡ suc v = omega arith in
          let p : parent_at t (v + 1) ≡ v =
          ap (parent_at t) up ∙ first_parent s v (suc v) low high (omega arith) q.0 in
          pick_true test (v + 1) 0
          (and_true _ _ (lt-ltb v (node_count t) (omega (arith, q.1))) (eq-eqb (parent_at t (v + 1)) v p))
          ∙ omega (arith, q.0)

  -- the next node with its parent
  pub next_by_parent : (v : ℕ) → 1 ≤ v → v ≤ node_count t
      → at_place (first_to (node_count t) (λ u. ltb v u && eqb (parent_at t u) (parent_at t v))) (λ u. u) 0 ≡ next_at t v
  next_by_parent v low high = go (next_cases s v low high)
    where
      p : ℕ → Bool
      p u = ltb v u && eqb (parent_at t u) (parent_at t v)

      not_before : (u : ℕ) → 1 ≤ u → u ≤ node_count t → (Follows v u → ⊥) → p u ≡ false
      not_before u one h none = by_less (ltb v u) refl (eqb (parent_at t u) (parent_at t v)) refl
        where
          by_less : (b : Bool) → ltb v u ≡ b → (c : Bool) → eqb (parent_at t u) (parent_at t v) ≡ c → p u ≡ false
          by_less true e true q =
              absurd (none (sibling_next v u low (ltb-true v u e) h (sym (eqb-true (parent_at t u) (parent_at t v) q))))
          by_less true e false q = and_false_right (ltb v u) (eqb (parent_at t u) (parent_at t v)) q
          by_less false e c q = and_false_left (ltb v u) (eqb (parent_at t u) (parent_at t v)) e

      go : (next_at t v ≡ 0) ⊎ ((v < next_at t v) × (next_at t v ≤ node_count t))
          → at_place (first_to (node_count t) p) (λ u. u) 0 ≡ next_at t v
      go (inl z) =
          at_place_nowhere (first_to (node_count t) p) (λ u. u) 0
          (first_to_none (node_count t) p (λ u one h. not_before u one h (λ r. omega (arith, r.0))))
          ∙ sym z
      go (inr r) =
          at_place_at (first_to (node_count t) p) (next_at t v) (λ u. u) 0
          (first_to-first (node_count t) (next_at t v) p
          (record {
            low = omega (arith, r.0);
            high = r.1;
            passed =
                and_true _ _ (lt-ltb v (next_at t v) r.0)
                (eq-eqb _ (parent_at t v) (next_parent s v (next_at t v) low high (omega (arith, r.0)) refl));
            before = λ u one less. not_before u one (omega (arith, r.1)) (λ x. omega (arith, x.1));
          }))
