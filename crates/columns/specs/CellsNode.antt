-- The children of a node by number: the figures of each, the children up to one of them, and what is kept of the
-- columns of a node's children.
-- Defines figure_at, children_up_to; NextChild, KidsFrom; ColumnsReady, ColumnsBack, ColumnsFilled.
-- Proves children_up_to_cons, figure_good, child-nth_prev, children_same (arrays that hold the figures give the
-- children of the table), first_child, next_child, kids_first, kids_step and kids_end (a walk over the children).
-- Assumes nothing.
use Rattle.std.specs.Prelude.{ℕ, zero, suc, ◌+◌, ◌-◌, ◌≤◌, ◌<◌, ◌≡◌, Bool, true, false, List, [], ◌∷◌, ◌⊎◌, length, get_or, eqb, leb}
use Rattle.std.proofs.Math.Path.{refl, ap}
use Rattle.std.proofs.Common.{◌∙◌, inl, inr, arith, eqb-true}
use Rattle.std.proofs.lemmas.Bool.{eqb-false}
use Rattle.model.specs.Basics.{pick}
use Rattle.model.specs.Table.{node_count, limit_of, weight_at, first_at, next_at}
use Rattle.model.specs.Plan.{prev_at, parent_at}
use Rattle.model.specs.Steps.{Child, entry_at, second_start, gain_of, child_of, children_from, children_of, siblings_by}
use Rattle.theory.specs.TableFacts.{SoundFacts, AcceptedFacts}
use Rattle.theory.specs.TableLinks.{prev_at_less, parent_at_less, first_le, next_le, first_prev}
use Rattle.theory.specs.TableLinks.{next_prev, first_parent, next_parent}
use Rattle.theory.specs.TableChain.{chain_at, chain_none, node_at}
use Rattle.theory.specs.SiblingsBack.{list_back, list_none, list_cons, list_same, Earlier, ChildOrNone, prev_child, SiblingsBefore, after_at}
use Rattle.columns.specs.Cells.{cell_at, GoodChild, entry_within}
use Rattle.columns.specs.CellsArrays.{child_in, children_in}
use Rattle.columns.specs.CellsArrays.{EachGood, cell_in}
use Rattle.columns.specs.CellsRun.{nth_prev, block_at}
use Rattle.columns.specs.declared.nodes.Nodes.{Nodes}

-- ---- Figures and children by number

-- the figures of node v
unfoldable pub figure_at : List ℕ → Bool → ℕ → Child
figure_at t gains v = child_of gains (limit_of t) (weight_at t v) (children_of gains (limit_of t) (chain_at t (first_at t v)))

-- the children up to node u, the last first
unfoldable pub children_up_to : List ℕ → Bool → ℕ → List Child
children_up_to t gains u = list_back (figure_at t gains) (prev_at t) u

pub children_up_to_none : (t : List ℕ) (gains : Bool) → children_up_to t gains 0 ≡ []
unfolding children_up_to
children_up_to_none t gains = list_none (figure_at t gains) (prev_at t)

pub children_up_to_cons : (t : List ℕ) (gains : Bool) (u : ℕ) → 1 ≤ u
    → children_up_to t gains u ≡ figure_at t gains u ∷ children_up_to t gains (prev_at t u)
unfolding children_up_to
children_up_to_cons t gains = list_cons (figure_at t gains) (prev_at t) (prev_at_less t)

-- ---- A node's figures

gain_small : (g b : Bool) (K W r : ℕ) → pick g (pick b (W - (r - (K - W + 1))) 0) 0 ≤ W
unfolding pick
gain_small true true K W r = omega arith
gain_small true false K W r = omega arith
gain_small false b K W r = omega arith

-- they are such as its parent may find
pub figure_good : (t : List ℕ) (gains : Bool) (v : ℕ) → weight_at t v ≤ limit_of t
    → GoodChild (limit_of t) (figure_at t gains v)
unfolding figure_at child_of gain_of
figure_good t gains v h =
    let ks : List Child = children_of gains (limit_of t) (chain_at t (first_at t v)) in
    let W : ℕ = (entry_at (limit_of t) ks (weight_at t v)).rest in
    record {
      light = (entry_within (limit_of t) ks (weight_at t v) h).rest_high;
      fits = gain_small gains (leb (second_start (limit_of t) (weight_at t v) W) (limit_of t)) (limit_of t) W
          (entry_at (limit_of t) ks (second_start (limit_of t) (weight_at t v) W)).rest;
    }

-- ---- Siblings

pub child-nth_prev : (t prevs : List ℕ) → SiblingsBefore t prevs → get_or prevs 0 0 ≡ 0 → (v n u : ℕ) → ChildOrNone t v u
    → ChildOrNone t v (nth_prev prevs n u)
unfolding nth_prev
child-nth_prev t prevs before z v zero u k = k
child-nth_prev t prevs before z v (suc n) u k = go (child-nth_prev t prevs before z v n u k)
  where
    go : ChildOrNone t v (nth_prev prevs n u) → ChildOrNone t v (get_or prevs (nth_prev prevs n u) 0)
    go (inl e) = inl (rw e z)
    go (inr q) = rw (before (nth_prev prevs n u) q.0 q.1) (prev_child t v (nth_prev prevs n u) q.0 q.1 q.2)

-- arrays with the figures of v's children give the children of the table
module _ (t : List ℕ) (nodes : Nodes) (g : Bool) (v : ℕ) (before : SiblingsBefore t nodes.prevs)
    (figures : (u : ℕ) → v < u → u ≤ node_count t → child_in nodes u ≡ figure_at t g u)
  where
    same_step : (u : ℕ) → 1 ≤ u → ChildOrNone t v u
        → (child_in nodes u ≡ figure_at t g u) × (get_or nodes.prevs u 0 ≡ prev_at t u) × ChildOrNone t v (prev_at t u)
    same_step u low (inl e) = absurd (omega arith)
    same_step u low (inr q) = (
      figures u (omega (arith, parent_at_less t u low, q.2)) q.1,
      before u low q.1,
      prev_child t v u low q.1 q.2,
    )

    pub children_same : (u : ℕ) → ChildOrNone t v u → children_in nodes u ≡ children_up_to t g u
    unfolding children_in children_up_to
    children_same = list_same (ChildOrNone t v) same_step

-- ---- A walk over the children of node v

-- c is the next child, after `before`
pub record NextChild (t : List ℕ) (v c before : ℕ) : Type 0 where
  pub low : 1 ≤ c
  pub high : c ≤ node_count t
  pub parent : parent_at t c ≡ v
  pub prev : prev_at t c ≡ before

-- what the children from c on add to those before
abbrev pub KidsFrom : List ℕ → ℕ → ℕ → ℕ → Type 0
KidsFrom t v c before =
    (g : Bool) → children_of g (limit_of t) (chain_at t (first_at t v))
    ≡ children_from g (limit_of t) (chain_at t c) (children_up_to t g before)

module _ {t : List ℕ} (s : SoundFacts t) (v : ℕ) (low : 1 ≤ v) (high : v ≤ node_count t) where
  pub kids_first : KidsFrom t v (first_at t v) 0
  unfolding children_of
  kids_first g = rw (children_up_to_none t g)

  pub first_child : (first_at t v ≡ 0) ⊎ NextChild t v (first_at t v) 0
  first_child = go (eqb (first_at t v) 0) refl
    where
      go : (b : Bool) → eqb (first_at t v) 0 ≡ b → (first_at t v ≡ 0) ⊎ NextChild t v (first_at t v) 0
      go true q = inl (eqb-true (first_at t v) 0 q)
      go false q =
          let d : first_at t v ≡ 0 → ⊥ = eqb-false (first_at t v) 0 q in
          let one : 1 ≤ first_at t v = omega arith in
          inr
          (record {
            low = one;
            high = first_le s v low high;
            parent = first_parent s v (first_at t v) low high one refl;
            prev = first_prev s v (first_at t v) low high one refl;
          })

  pub next_child : (c before : ℕ) → NextChild t v c before → (next_at t c ≡ 0) ⊎ NextChild t v (next_at t c) c
  next_child c before n = go (eqb (next_at t c) 0) refl
    where
      go : (b : Bool) → eqb (next_at t c) 0 ≡ b → (next_at t c ≡ 0) ⊎ NextChild t v (next_at t c) c
      go true q = inl (eqb-true (next_at t c) 0 q)
      go false q =
          let d : next_at t c ≡ 0 → ⊥ = eqb-false (next_at t c) 0 q in
          let one : 1 ≤ next_at t c = omega arith in
          inr
          (record {
            low = one;
            high = next_le s c n.low n.high;
            parent = next_parent s c (next_at t c) n.low n.high one refl ∙ n.parent;
            prev = next_prev s c (next_at t c) n.low n.high one refl;
          })

  pub kids_step : (c before : ℕ) → NextChild t v c before → KidsFrom t v c before → KidsFrom t v (next_at t c) c
  unfolding children_of siblings_by figure_at
  kids_step c before n k g =
      let a = node_at s c n.low n.high in
      let f : children_up_to t g c ≡ figure_at t g c ∷ children_up_to t g before =
      children_up_to_cons t g c n.low ∙ ap (λ u. figure_at t g c ∷ children_up_to t g u) n.prev in
      k g ∙ ap (λ x. children_from g (limit_of t) x (children_up_to t g before)) a.shape ∙ rw f refl

pub kids_end : (t : List ℕ) (v before : ℕ) → KidsFrom t v 0 before
    → (g : Bool) → children_of g (limit_of t) (chain_at t (first_at t v)) ≡ children_up_to t g before
unfolding siblings_by
kids_end t v before k g = k g ∙ ap (λ x. children_from g (limit_of t) x (children_up_to t g before)) (chain_none t)

-- ---- What is kept

-- the siblings before each node, children that may be weighed, and the column of no child
pub record ColumnsReady (t : List ℕ) (nodes : Nodes) (xs : List ℕ) : Type 0 where
  pub accepted : AcceptedFacts t
  pub good : EachGood (limit_of t) nodes
  pub before : SiblingsBefore t nodes.prevs
  pub earlier : Earlier nodes.prevs
  pub none : get_or nodes.prevs 0 0 ≡ 0
  pub room : block_at (limit_of t) (node_count t + 1) ≤ length xs
  pub root : (s : ℕ) → s ≤ limit_of t → cell_in xs (limit_of t) (block_at (limit_of t) 0) s ≡ cell_at (limit_of t) [] s

-- the cells from a start on, in the blocks of node u and of the siblings before it, are those of the arrays
abbrev pub ColumnsBack : ℕ → ℕ → Nodes → List ℕ → ℕ → Type 0
ColumnsBack K start nodes ys u =
    (n s : ℕ) → start ≤ s → s ≤ K
    → cell_in ys K (block_at K (nth_prev nodes.prevs n u)) s ≡ cell_at K (children_in nodes (nth_prev nodes.prevs n u)) s

-- the columns of v's children are filled, the last of them is r, and no other block is changed
pub record ColumnsFilled (t : List ℕ) (nodes : Nodes) (v r : ℕ) (xs ys : List ℕ) : Type 0 where
  pub long : length ys ≡ length xs
  pub last_child : ChildOrNone t v r
  pub link : after_at t v r ≡ 0
  pub kids : (g : Bool) → children_of g (limit_of t) (chain_at t (first_at t v)) ≡ children_up_to t g r
  pub columns : ColumnsBack (limit_of t) (weight_at t v) nodes ys r
  pub others : (u s : ℕ) → (parent_at t u ≡ v → ⊥) → s ≤ limit_of t
      → cell_in ys (limit_of t) (block_at (limit_of t) u) s ≡ cell_in xs (limit_of t) (block_at (limit_of t) u) s
