-- Runs laid one after the other, from a node back to its siblings before. Defines AllNodes.
-- Proves children_low, children-nth_prev, children_nodes (siblings before a node, by the children up to it),
-- nth_prev_add, laid_none, laid_one, laid_then and seconds_gain_set. Assumes nothing.
use Prim.Native.Nat.{ℕ, zero, suc, ◌+◌, ◌-◌, ◌≤◌, ◌<◌}
use mathlib.Core.Path.{◌≡◌, refl, sym, ◌∙◌, ap, ap₂}
use mathlib.Core.Bool.{Bool, true, false}
use mathlib.Core.List.{List, [], ◌∷◌, ◌++◌}
use native.Mathlib.Omega.{arith}
use lib.ListN.{length, get_or, set, drop, length-drop, length-set}
use lib.Seq.{get_or-set_same, get_or-set_other}
use lib.Dec.{eqb}
use borrow.Author.Tests.{eqb-true, eqb-false}
use Rattle.model.specs.Steps.{Choice}
use Rattle.theory.specs.SiblingsBack.{Earlier}
use Rattle.columns.specs.CellsArrays.{children_in, children_none, children_cons}
use Rattle.columns.specs.CellsRun.{nth_prev, nth_prev_shift}
use Rattle.best.specs.LayChosen.{chosen_in, choices_for, choices_for_same, choices_for_more, LaidRun}
use Rattle.best.specs.LayContracts.{SecondsGain}
use Rattle.columns.specs.declared.nodes.Nodes.{Nodes}

-- ---- Siblings before a node

module _ (nodes : Nodes) (earlier : Earlier nodes.prevs) where
  -- there is a child
  pub children_low : (c : ℕ) → 1 ≤ length (children_in nodes c) → 1 ≤ c
  children_low c h = go (eqb c 0) refl
    where
      go : (b : Bool) → eqb c 0 ≡ b → 1 ≤ c
      go true e =
          let z : c ≡ 0 = eqb-true c 0 e in
          let none : children_in nodes c ≡ [] =
          ap (children_in nodes) z ∙ children_none nodes earlier in
          absurd (omega (arith, ap length none))
      go false e = let d : c ≡ 0 → ⊥ = eqb-false c 0 e in omega arith

  -- the children up to the n-th sibling before c
  pub children-nth_prev : (n c : ℕ) → n ≤ length (children_in nodes c)
      → children_in nodes (nth_prev nodes.prevs n c) ≡ drop n (children_in nodes c)
  unfolding nth_prev
  children-nth_prev zero c h = refl
  children-nth_prev (suc n) c h =
      let shape = children_cons nodes earlier c (children_low c (omega arith)) in
      ap (children_in nodes) (nth_prev_shift nodes.prevs n c)
      ∙ children-nth_prev n (get_or nodes.prevs c 0) (omega (arith, ap length shape))
      ∙ sym (ap (drop (suc n)) shape)

  -- each of them is a node
  pub children_nodes : (n c : ℕ) → n < length (children_in nodes c) → 1 ≤ nth_prev nodes.prevs n c
  children_nodes n c h =
      children_low (nth_prev nodes.prevs n c)
      (omega (arith, ap length (children-nth_prev n c (omega arith)), length-drop n (children_in nodes c)))

-- so many siblings back, and more
pub nth_prev_add : (prevs : List ℕ) (n j c : ℕ) → nth_prev prevs j (nth_prev prevs n c) ≡ nth_prev prevs (n + j) c
unfolding nth_prev
nth_prev_add prevs n zero c = let e : n + 0 ≡ n = omega arith in rw e refl
nth_prev_add prevs n (suc j) c =
    let e : n + suc j ≡ suc (n + j) = omega arith in
    ap (λ u. get_or prevs u 0) (nth_prev_add prevs n j c) ∙ sym (ap (λ k. nth_prev prevs k c) e)

-- the first m of a node and its siblings before are nodes
abbrev pub AllNodes : List ℕ → ℕ → ℕ → Type 0
AllNodes prevs m c = (j : ℕ) → j < m → 1 ≤ nth_prev prevs j c

nth_prev_less : (prevs : List ℕ) → Earlier prevs → (m c : ℕ) → AllNodes prevs m c → (n i : ℕ) → n < m → i < n
    → nth_prev prevs n c < nth_prev prevs i c
unfolding nth_prev
nth_prev_less prevs earlier m c are_nodes zero i h l = absurd (omega arith)
nth_prev_less prevs earlier m c are_nodes (suc n) i h l =
    go (eqb i n) refl (λ q. nth_prev_less prevs earlier m c are_nodes n i (omega arith) q)
  where
    step : get_or prevs (nth_prev prevs n c) 0 < nth_prev prevs n c
    step = earlier (nth_prev prevs n c) (are_nodes n (omega arith))

    go : (b : Bool) → eqb i n ≡ b → (i < n → nth_prev prevs n c < nth_prev prevs i c)
        → get_or prevs (nth_prev prevs n c) 0 < nth_prev prevs i c
    go true e ih = let q : i ≡ n = eqb-true i n e in rw q step
    go false e ih =
        let d : i ≡ n → ⊥ = eqb-false i n e in
        omega (arith, step, ih (omega arith))

-- ---- Laid runs

pub laid_none : (prevs : List ℕ) (c : ℕ) (marks : List ℕ) (seconds : List Bool) → LaidRun prevs 0 c [] marks seconds marks seconds
unfolding choices_for
laid_none prevs c marks seconds = record { long = refl; chosen = refl; others = λ u p q. refl }

-- one node
pub laid_one : (prevs : List ℕ) (c : ℕ) (marks : List ℕ) (seconds : List Bool) (mark : ℕ) (second : Bool) → 1 ≤ c → c ≤ length marks
    → c < length seconds
    → LaidRun prevs 1 c (record { mark = mark; second = second } ∷ []) marks seconds (set marks (c - 1) mark)
    (set seconds c second)
unfolding choices_for nth_prev
laid_one prevs c marks seconds mark second low high short =
    record {
      long = simp length-set refl;
      chosen =
          ap₂ (λ x y. record { mark = x; second = y } ∷ [])
          (get_or-set_same marks (c - 1) mark 0 (omega arith))
          (get_or-set_same seconds c second false short);
      others = λ u p q.
          let d : u ≡ c → ⊥ = q 0 (omega arith) in
          let e : u - 1 ≡ c - 1 → ⊥ = λ h. d (omega arith) in
          ap₂ (λ x y. record { mark = x; second = y })
          (get_or-set_other marks (c - 1) (u - 1) mark 0 e)
          (get_or-set_other seconds c u second false d);
    }

-- a run, and one before it
laid_join : {prevs m m₁ m₂ : List ℕ} {s s₁ s₂ : List Bool} {n k c : ℕ} {cs ds : List Choice} → Earlier prevs
    → AllNodes prevs (n + k) c
    → LaidRun prevs n c cs m s m₁ s₁ → LaidRun prevs k (nth_prev prevs n c) ds m₁ s₁ m₂ s₂
    → LaidRun prevs (n + k) c (cs ++ ds) m s m₂ s₂
laid_join {prevs} {m₁ = m₁} {m₂ = m₂} {s₁ = s₁} {s₂ = s₂} {n = n} {k = k} {c = c} earlier are_nodes a b =
    record {
      long = b.long ∙ a.long;
      chosen =
          choices_for_more prevs (chosen_in m₂ s₂) n k c
          ∙ ap₂ ◌++◌
          (choices_for_same prevs (chosen_in m₂ s₂) (chosen_in m₁ s₁) n c
          (λ i l. b.others (nth_prev prevs i c) (are_nodes i (omega arith)) (apart i l)) ∙ a.chosen)
          b.chosen;
      others = λ u low h.
          b.others u low (λ j l e. h (n + j) (omega arith) (e ∙ nth_prev_add prevs n j c))
          ∙ a.others u low (λ i l e. h i (omega arith) e);
    }
  where
    apart : (i : ℕ) → i < n → (j : ℕ) → j < k → nth_prev prevs i c ≡ nth_prev prevs j (nth_prev prevs n c) → ⊥
    apart i l j q e =
        let less = nth_prev_less prevs earlier (n + k) c are_nodes (n + j) i (omega arith) (omega arith) in
        omega (arith, less, e, nth_prev_add prevs n j c)

pub laid_then : {prevs m m₁ m₂ : List ℕ} {s s₁ s₂ : List Bool} {n k c u : ℕ} {cs ds : List Choice} → Earlier prevs
    → AllNodes prevs (n + k) c
    → u ≡ nth_prev prevs n c → LaidRun prevs n c cs m s m₁ s₁ → LaidRun prevs k u ds m₁ s₁ m₂ s₂
    → LaidRun prevs (n + k) c (cs ++ ds) m s m₂ s₂
laid_then earlier are_nodes e a b = laid_join earlier are_nodes a (rw e at b)

-- ---- Second plans

pub seconds_gain_set : (gains : List ℕ) (seconds : List Bool) (c : ℕ) (x : Bool) → c < length seconds → SecondsGain gains seconds
    → (x ≡ true → 1 ≤ get_or gains c 0)
    → SecondsGain gains (set seconds c x)
seconds_gain_set gains seconds c x short g h u e = go (eqb u c) refl
  where
    go : (b : Bool) → eqb u c ≡ b → 1 ≤ get_or gains u 0
    go true q =
        let same : u ≡ c = eqb-true u c q in
        rw same (h (sym (get_or-set_same seconds c x false short) ∙ ap (λ w. get_or (set seconds c x) w false) (sym same) ∙ e))
    go false q = g u (sym (get_or-set_other seconds c u x false (eqb-false u c q)) ∙ e)
