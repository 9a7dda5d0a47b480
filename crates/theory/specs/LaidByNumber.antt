-- Marks laid node by node, in any order: where what becomes of each node's children is what the steps choose for them,
-- the marks are those that are laid from the root down.
-- Defines siblings_back, Along, ChildrenLaid. Proves siblings_back_none, siblings_back_cons, siblings_back_same,
-- back_along, lay_numbered and marks_laid. Assumes nothing.
use Prim.Native.Nat.{ℕ, zero, suc, ◌+◌, ◌-◌, ◌≤◌, ◌<◌}
use Rattle.std.specs.Prelude.{◌≡◌, Bool, length, take, drop}
use Rattle.std.proofs.Math.Path.{refl, sym, ap, ap₂}
use Rattle.std.proofs.Common.{◌∙◌, inl, inr, drop-cons, take-add, drop-drop}
use Rattle.std.proofs.Math.Bool.{true, false}
use mathlib.Core.List.{List, [], ◌∷◌, ◌++◌, reverse, reverse_aux}
use native.Mathlib.Omega.{arith}
use Rattle.std.proofs.Math.ListN.{get_or}
use Rattle.std.proofs.Math.Seq.{take-length}
use Rattle.std.proofs.Math.Dec.{eqb}
use borrow.Author.Tests.{eqb-true, eqb-false, ne_eqb}
use Rattle.model.specs.Basics.{pick}
use Rattle.model.specs.Table.{node_count, weight_at, label_at, first_at, next_at, tree_of, Chain, node}
use Rattle.model.specs.Plan.{prev_at, parent_at}
use Rattle.model.specs.Steps.{lay_down}
use Rattle.theory.specs.TableFacts.{SoundFacts}
use Rattle.theory.specs.TableNumbered.{Numbered, none, some, numbered_le, sound_tree}
use Rattle.theory.specs.TableLinks.{prev_at_less, prev_at_next, parent_at_less, parent_first}
use Rattle.theory.specs.TableChain.{chain_at, chain_is}
use Rattle.theory.specs.SiblingsBack.{back_from, list_back, list_none, list_cons, list_same, ChildOrNone}
use Rattle.theory.specs.SiblingsBack.{prev_child, after_at}

module _ {A : Type 0} where
  -- what becomes of node u and of the siblings before it
  unfoldable pub siblings_back : List ℕ → (ℕ → A) → ℕ → List A
  siblings_back t ch u = list_back ch (prev_at t) u

  pub siblings_back_none : (t : List ℕ) (ch : ℕ → A) → siblings_back t ch 0 ≡ []
  unfolding siblings_back
  siblings_back_none t ch = list_none ch (prev_at t)

  pub siblings_back_cons : (t : List ℕ) (ch : ℕ → A) (u : ℕ) → 1 ≤ u
      → siblings_back t ch u ≡ ch u ∷ siblings_back t ch (prev_at t u)
  unfolding siblings_back
  siblings_back_cons t ch = list_cons ch (prev_at t) (prev_at_less t)

  -- it is the same where it is the same for each child of node v
  pub siblings_back_same : (t : List ℕ) (ch ch' : ℕ → A) (v : ℕ)
      → ((u : ℕ) → 1 ≤ u → u ≤ node_count t → parent_at t u ≡ v → ch u ≡ ch' u)
      → (u : ℕ) → ChildOrNone t v u → siblings_back t ch u ≡ siblings_back t ch' u
  unfolding siblings_back
  siblings_back_same t ch ch' v same = list_same (ChildOrNone t v) step
    where
      step : (u : ℕ) → 1 ≤ u → ChildOrNone t v u
          → (ch u ≡ ch' u) × (prev_at t u ≡ prev_at t u) × ChildOrNone t v (prev_at t u)
      step u low (inl e) = absurd (omega arith)
      step u low (inr q) = (same u low q.1 q.2, refl, prev_child t v u low q.1 q.2)

-- what becomes of the nodes from a link on
pub data Along {A : Type 0} (t : List ℕ) (ch : ℕ → A) : ℕ → List A → Type 0 where
  along_none : Along t ch 0 []
  along_some : {v : ℕ} {cs : List A} → 1 ≤ v → Along t ch (next_at t v) cs → Along t ch v (ch v ∷ cs)

record AlongNode {A : Type 0} (t : List ℕ) (ch : ℕ → A) (v : ℕ) (cs : List A) : Type 0 where
  rest : List A
  shape : cs ≡ ch v ∷ rest
  after : Along t ch (next_at t v) rest

along_node : {A : Type 0} {t : List ℕ} {ch : ℕ → A} {v : ℕ} {cs : List A} → Along t ch v cs → 1 ≤ v
    → AlongNode t ch v cs
along_node along_none low = absurd (omega arith)
along_node (along_some {cs = cs} l a) low = record { rest = cs; shape = refl; after = a }

-- from the last child back to the first
module _ {A : Type 0} {t : List ℕ} (s : SoundFacts t) (ch : ℕ → A) (v : ℕ) (low : 1 ≤ v) where
  link_before : (u : ℕ) → 1 ≤ u → u ≤ node_count t → parent_at t u ≡ v → after_at t v (prev_at t u) ≡ u
  unfolding pick
  link_before u one high e = go (eqb (prev_at t u) 0) refl
    where
      go : (b : Bool) → eqb (prev_at t u) 0 ≡ b → after_at t v (prev_at t u) ≡ u
      go true q =
          let z : prev_at t u ≡ 0 = eqb-true (prev_at t u) 0 q in
          let two : 2 ≤ u = omega (arith, parent_at_less t u one) in
          rw (q, ← e) (parent_first s u two high z)
      go false q =
          let d : prev_at t u ≡ 0 → ⊥ = eqb-false (prev_at t u) 0 q in
          rw q (prev_at_next t u (omega arith))

  back_along_from : (f u c : ℕ) (ds : List A) → u ≤ f → ChildOrNone t v u → after_at t v u ≡ c → Along t ch c ds
      → Along t ch (first_at t v) (reverse_aux (back_from f ch (prev_at t) u) ds)
  unfolding back_from pick
  back_along_from zero zero c ds p k e a = rw (e) a
  back_along_from zero (suc u) c ds p k e a = absurd (omega arith)
  back_along_from (suc f) zero c ds p k e a = rw (e) a
  back_along_from (suc f) (suc u) c ds p (inl z) e a = absurd (omega arith)
  back_along_from (suc f) (suc u) c ds p (inr q) e a =
      let d : suc u ≡ 0 → ⊥ = λ z. omega arith in
      let next : next_at t (suc u) ≡ c = sym (rw (ne_eqb (suc u) 0 d) refl) ∙ e in
      let here : Along t ch (suc u) (ch (suc u) ∷ ds) = along_some {v = suc u} {cs = ds} q.0 (rw next a) in
      back_along_from f (prev_at t (suc u)) (suc u) (ch (suc u) ∷ ds)
      (omega (arith, prev_at_less t (suc u) q.0))
      (prev_child t v (suc u) q.0 q.1 q.2)
      (link_before (suc u) q.0 q.1 q.2)
      here

  pub back_along : (u : ℕ) → ChildOrNone t v u → after_at t v u ≡ 0
      → Along t ch (first_at t v) (reverse (siblings_back t ch u))
  unfolding siblings_back list_back
  back_along u k e = back_along_from u u 0 [] (omega arith) k e along_none

-- what becomes of the children of node u is what the steps choose for them
pub record ChildrenLaid {A : Type 0} (t : List ℕ) (below : ℕ → Chain → A → List A) (ch : ℕ → A) (u : ℕ) : Type 0 where
  pub chosen : List A
  pub along : Along t ch (first_at t u) chosen
  pub same : below (weight_at t u) (chain_at t (first_at t u)) (ch u) ≡ chosen

-- the elements from a on, before b
abbrev part : ℕ → ℕ → List ℕ → List ℕ
part a b l = take (b - a) (drop a l)

part_empty : (a : ℕ) (l : List ℕ) → part a a l ≡ []
part_empty a l = let e : a - a ≡ 0 = omega arith in rw e refl

part_cons : (a b : ℕ) (l : List ℕ) → a < b → a < length l → part a b l ≡ get_or l a 0 ∷ part (suc a) b l
part_cons a b l h k =
    let e : b - a ≡ suc (b - suc a) = omega arith in
    ap (λ n. take n (drop a l)) e ∙ ap (take (suc (b - suc a))) (drop-cons l a 0 k)

part_join : (a b c : ℕ) (l : List ℕ) → a ≤ b → b ≤ c → part a b l ++ part b c l ≡ part a c l
part_join a b c l p q =
    let e : c - a ≡ (b - a) + (c - b) = omega arith in
    let f : a + (b - a) ≡ b = omega arith in
    sym (ap (λ n. take n (drop a l)) e ∙ take-add (b - a) (c - b) (drop a l)
    ∙ ap (λ x. take (b - a) (drop a l) ++ take (c - b) x) (drop-drop (b - a) a l ∙ ap (λ n. drop n l) f))

module _ {A : Type 0} (t : List ℕ) (mark : A → ℕ) (below : ℕ → Chain → A → List A) (ch : ℕ → A) (marks : List ℕ)
    (long : length marks ≡ node_count t) (mark_is : (u : ℕ) → u < node_count t → get_or marks u 0 ≡ mark (ch (suc u)))
    (laid : (u : ℕ) → 1 ≤ u → u ≤ node_count t → ChildrenLaid t below ch u)
  where
    lay_numbered : {m v e : ℕ} {c : Chain} → Numbered t m v c e → e ≤ node_count t → (cs : List A) → Along t ch v cs
        → lay_down mark below c cs ≡ part m e marks
    unfolding lay_down
    lay_numbered {m} none h cs a = sym (part_empty m marks)
    lay_numbered (some {m = m} {e₁ = e₁} {e₂ = e₂} {kids = kids} {next = next} k s) h cs a =
        let n = along_node a (omega arith) in
        let mid : e₁ ≤ node_count t = omega (arith, numbered_le s) in
        let l = laid (suc m) (omega arith) (omega (arith, numbered_le k)) in
        let shape : chain_at t (first_at t (suc m)) ≡ kids = chain_is k mid in
        let under = lay_numbered k mid l.chosen l.along in
        let after = lay_numbered s h n.rest n.after in
        let chosen : below (weight_at t (suc m)) kids (ch (suc m)) ≡ l.chosen = rw shape at l.same in
        let first : part m e₂ marks ≡ get_or marks m 0 ∷ part (suc m) e₂ marks =
        part_cons m e₂ marks (omega (arith, numbered_le k, numbered_le s))
        (omega (arith, numbered_le k, numbered_le s, long)) in
        ap (lay_down mark below (node (weight_at t (suc m)) (label_at t (suc m)) kids next)) n.shape
        ∙ ap₂ (λ x y. mark (ch (suc m)) ∷ (lay_down mark below kids x ++ y)) chosen after
        ∙ ap (λ x. mark (ch (suc m)) ∷ (x ++ part e₁ e₂ marks)) under
        ∙ ap₂ ◌∷◌ (sym (mark_is m (omega (arith, numbered_le k, numbered_le s))))
        (part_join (suc m) e₁ e₂ marks (numbered_le k) (numbered_le s))
        ∙ sym first

    pub marks_laid : SoundFacts t → lay_down mark below (tree_of t) (ch 1 ∷ []) ≡ marks
    marks_laid s =
        let whole : node_count t - 0 ≡ length marks = omega arith in
        let a : Along t ch 1 (ch 1 ∷ []) = along_some {v = 1} {cs = []} (omega arith) (rw s.root_alone along_none) in
        lay_numbered (sound_tree s) (omega arith) (ch 1 ∷ []) a
        ∙ ap (λ n. take n marks) whole
        ∙ take-length marks
