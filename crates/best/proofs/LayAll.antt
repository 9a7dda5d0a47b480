-- The marks of all nodes, parents before children. Defines Laying. Proves laying_start, laying_ready, laying_turn
-- and laying_end. Assumes nothing.
use Prim.Native.Nat.{ℕ, zero, suc, ◌+◌, ◌≤◌, ◌<◌}
use mathlib.Core.Path.{◌≡◌, refl, sym, ◌∙◌, ap, ap₂}
use mathlib.Core.Bool.{Bool, true, false, false≢true}
use mathlib.Core.List.{List, [], ◌∷◌, reverse}
use native.Mathlib.Omega.{arith}
use lib.ListN.{length, get_or, set, replicate, length-set, length-replicate}
use lib.Seq.{get_or-set_same}
use lib.Dec.{eqb, leb}
use borrow.Author.Tests.{eqb-true, eqb-false, leb-true}
use Rattle.model.specs.Basics.{pick}
use Rattle.model.specs.Table.{slots, node_count, limit_of, weight_at, first_at, tree_of}
use Rattle.model.specs.Plan.{begins}
use Rattle.model.specs.Steps.{Child, Choice, entry_at, second_start, gain_of, child_of, children_of, choices_of, lay_marks, root_choice}
use Rattle.theory.specs.TableLinks.{parent_at_less}
use Rattle.theory.specs.TableChain.{chain_at}
use Rattle.theory.specs.SiblingsBack.{ChildOrNone}
use Rattle.theory.specs.LaidByNumber.{siblings_back, siblings_back_same, back_along, ChildrenLaid, marks_laid}
use Rattle.columns.specs.Cells.{cell_at}
use Rattle.columns.specs.CellsArrays.{children_in, child_in}
use Rattle.columns.specs.CellsRun.{nth_prev}
use Rattle.columns.specs.CellsNode.{figure_at, children_up_to, children_same, child-nth_prev}
use Rattle.columns.specs.CellsPlan.{NodesPlanned}
use Rattle.best.specs.LayChosen.{chosen_in}
use Rattle.best.specs.LayContracts.{SecondsGain, start_of, NodeReady, NodeDone}
use Rattle.columns.specs.declared.nodes.Nodes.{Nodes}

-- ---- A node with a gain has a second plan

gain_starts : (g : Bool) (K w W x : ℕ) → 1 ≤ pick g (pick (leb (second_start K w W) K) x 0) 0 → second_start K w W ≤ K
unfolding pick
gain_starts false K w W x h = absurd (omega arith)
gain_starts true K w W x h = go (leb (second_start K w W) K) refl h
  where
    go : (b : Bool) → leb (second_start K w W) K ≡ b → 1 ≤ pick b x 0 → second_start K w W ≤ K
    go true e p = leb-true (second_start K w W) K e
    go false e p = absurd (omega arith)

figure_starts : (t : List ℕ) (g : Bool) (v : ℕ) → 1 ≤ (figure_at t g v).gain
    → second_start (limit_of t) (weight_at t v) (figure_at t g v).rest ≤ limit_of t
unfolding figure_at child_of gain_of
figure_starts t g v h = gain_starts g (limit_of t) (weight_at t v) _ _ h

figure_rest : (t : List ℕ) (g : Bool) (v : ℕ)
    → (figure_at t g v).rest ≡ (entry_at (limit_of t) (children_of g (limit_of t) (chain_at t (first_at t v)))
    (weight_at t v)).rest
unfolding figure_at child_of
figure_rest t g v = refl

-- ---- One node a turn

-- the children of the nodes before v are laid
pub record Laying (t : List ℕ) (nodes : Nodes) (marks : List ℕ) (seconds : List Bool) (v : ℕ) : Type 0 where
  pub long : length marks ≡ node_count t
  pub wide : length seconds ≡ slots
  pub low : 1 ≤ v
  pub root : chosen_in marks seconds 1 ≡ record { mark = begins; second = false }
  pub seconds_gain : SecondsGain nodes.gains seconds
  pub done : (w : ℕ) → 1 ≤ w → w < v → siblings_back t (chosen_in marks seconds) (get_or nodes.lasts w 0)
      ≡ (entry_at (limit_of t) (children_in nodes (get_or nodes.lasts w 0))
      (start_of (limit_of t) (weight_at t w) (get_or nodes.rests w 0) (chosen_in marks seconds w).second)).choices

-- no node follows its second plan
none : (n u : ℕ) → get_or {A = Bool} (replicate n false) u false ≡ false
none zero u = refl
none (suc n) zero = refl
none (suc n) (suc u) = none n u

pub laying_start : (t : List ℕ) (nodes : Nodes) (marks : List ℕ) → length marks ≡ node_count t → 1 ≤ node_count t
    → Laying t nodes (set marks 0 1) (replicate slots false) 1
laying_start t nodes marks long low =
    record {
      long = simp length-set long;
      wide = length-replicate {A = Bool} slots false;
      low = omega arith;
      root = ap₂ (λ x y. record { mark = x; second = y }) (get_or-set_same marks 0 1 0 (omega (arith, long)))
          (none slots 1);
      seconds_gain = λ u e. absurd (false≢true (sym (none slots u) ∙ e));
      done = λ w p q. absurd (omega arith);
    }

module _ {t : List ℕ} {nodes : Nodes} {xs marks : List ℕ} {seconds : List Bool} {v : ℕ}
    (l : Laying t nodes marks seconds v) where
  module _ {g : Bool} (p : NodesPlanned t g 0 nodes xs) where
    -- the children of node w
    children_are : (w u : ℕ) → ChildOrNone t w u → children_in nodes u ≡ children_up_to t g u
    children_are w = children_same t nodes g w p.ready.before (λ u a b. p.figures u (omega arith) b)

    pub laying_ready : v ≤ node_count t → NodeReady t v nodes xs marks seconds
    laying_ready inside =
        let here : 0 < v = omega (arith, l.low) in
        let figure : child_in nodes v ≡ figure_at t g v = p.figures v here inside in
        record {
          low = l.low;
          high = inside;
          ready = p.ready;
          last_child = p.last_child v here inside;
          columns = λ n s a b.
              p.columns v here inside n s a b
              ∙ ap (λ ks. cell_at (limit_of t) ks s)
              (sym (children_are v (nth_prev nodes.prevs n (get_or nodes.lasts v 0))
              (child-nth_prev t nodes.prevs p.ready.before p.ready.none v n (get_or nodes.lasts v 0)
              (p.last_child v here inside))));
          second = λ q.
              let some : 1 ≤ (figure_at t g v).gain = omega (arith, ap (λ k. k.gain) figure) in
              rw (ap (λ k. k.rest) figure) (figure_starts t g v some);
          long = l.long;
          wide = l.wide;
          seconds_gain = l.seconds_gain;
        }

    children_laid : node_count t < v → (u : ℕ) → 1 ≤ u → u ≤ node_count t
        → ChildrenLaid t (λ w kids c. choices_of g (limit_of t) w kids c.second) (chosen_in marks seconds) u
    unfolding choices_of
    children_laid full u low high =
        let K : ℕ = limit_of t in
        let w : ℕ = weight_at t u in
        let ks : List Child = children_of g K (chain_at t (first_at t u)) in
        let last_child = p.last_child u (omega arith) high in
        let kids : ks ≡ children_in nodes (get_or nodes.lasts u 0) =
        p.kids u (omega arith) high g ∙ sym (children_are u (get_or nodes.lasts u 0) last_child) in
        let rest : (entry_at K ks w).rest ≡ get_or nodes.rests u 0 =
        sym (ap (λ k. k.rest) (p.figures u (omega arith) high) ∙ figure_rest t g u) in
        record {
          chosen = reverse (siblings_back t (chosen_in marks seconds) (get_or nodes.lasts u 0));
          along = back_along p.ready.accepted.sound (chosen_in marks seconds) u low (get_or nodes.lasts u 0) last_child
              (p.link u (omega arith) high);
          same =
              ap (λ W. reverse (entry_at K ks (start_of K w W (chosen_in marks seconds u).second)).choices) rest
              ∙ ap (λ l. reverse (entry_at K l (start_of K w (get_or nodes.rests u 0)
              (chosen_in marks seconds u).second)).choices) kids
              ∙ ap reverse (sym (l.done u low (omega arith)));
        }

    pub laying_end : node_count t < v → marks ≡ lay_marks g (limit_of t) (tree_of t) root_choice
    laying_end full =
        sym
        (ap (λ c. lay_marks g (limit_of t) (tree_of t) (c ∷ [])) (sym l.root)
        ∙ marks_laid t (λ (c : Choice). c.mark) (λ w kids c. choices_of g (limit_of t) w kids c.second)
        (chosen_in marks seconds) marks l.long (λ u h. ap (λ i. get_or marks i 0) (omega arith)) (children_laid full)
        p.ready.accepted.sound)

  module _ {marks' : List ℕ} {seconds' : List Bool} (node : NodeReady t v nodes xs marks seconds)
      (last-children : (w : ℕ) → 1 ≤ w → w ≤ node_count t → ChildOrNone t w (get_or nodes.lasts w 0))
      (d : NodeDone t v nodes marks seconds marks' seconds')
    where
      -- a node up to v has its choice by now
      choice_kept : (w : ℕ) → 1 ≤ w → w ≤ v → chosen_in marks' seconds' w ≡ chosen_in marks seconds w
      choice_kept w low h = d.others w low (λ e. omega (arith, parent_at_less t w low))

      start_same : (w : ℕ) → 1 ≤ w → w ≤ v
          → start_of (limit_of t) (weight_at t w) (get_or nodes.rests w 0) (chosen_in marks' seconds' w).second
          ≡ start_of (limit_of t) (weight_at t w) (get_or nodes.rests w 0) (chosen_in marks seconds w).second
      start_same w low h = ap (λ c. start_of (limit_of t) (weight_at t w) (get_or nodes.rests w 0) c.second)
          (choice_kept w low h)

      pub laying_turn : Laying t nodes marks' seconds' (v + 1)
      laying_turn =
          record {
            long = d.long ∙ l.long;
            wide = d.wide;
            low = omega arith;
            root = choice_kept 1 (omega arith) l.low ∙ l.root;
            seconds_gain = d.seconds_gain;
            done = λ w low h. go w low (omega arith) (eqb w v) refl;
          }
        where
          go : (w : ℕ) → 1 ≤ w → w ≤ v → (b : Bool) → eqb w v ≡ b
              → siblings_back t (chosen_in marks' seconds') (get_or nodes.lasts w 0)
              ≡ (entry_at (limit_of t) (children_in nodes (get_or nodes.lasts w 0))
              (start_of (limit_of t) (weight_at t w) (get_or nodes.rests w 0) (chosen_in marks' seconds' w).second)).choices
          go w low h true e =
              let q : w ≡ v = eqb-true w v e in
              rw (start_same w low h, q) d.chosen
          go w low h false e =
              let n : w ≡ v → ⊥ = eqb-false w v e in
              siblings_back_same t (chosen_in marks' seconds') (chosen_in marks seconds) w
              (λ x one high f. d.others x one (λ y. n (sym f ∙ y)))
              (get_or nodes.lasts w 0) (last-children w low (omega (arith, node.high)))
              ∙ l.done w low (omega arith)
              ∙ ap (λ s. (entry_at (limit_of t) (children_in nodes (get_or nodes.lasts w 0)) s).choices)
              (sym (start_same w low h))
