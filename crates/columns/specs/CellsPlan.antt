-- All nodes after one of them are planned: their figures, their last children and the columns of their children are
-- kept. Defines NodesPlanned, gain_from, put_node. Proves node_figures (a node's figures from the words of its last child's
-- block), planned_none and planned_step. Assumes nothing.
use Prim.Native.Nat.{ℕ, ◌+◌, ◌-◌, ◌*◌, ◌%◌, ◌≤◌, ◌<◌}
use Rattle.std.specs.Prelude.{◌≡◌, Bool, List, length, set, leb}
use Rattle.std.proofs.Math.Path.{refl, ap, ap₂}
use Rattle.std.proofs.Common.{sym, ◌∙◌, inl, inr, mod-eq_of_lt, get_or-set_same}
use Rattle.std.proofs.Math.Bool.{true, false}
use native.Mathlib.Omega.{arith}
use Rattle.std.proofs.Math.Nat.{mul-add-mod_self_right}
use Rattle.std.proofs.Math.ListN.{get_or}
use Rattle.std.proofs.Math.Seq.{get_or-set_other}
use Rattle.std.proofs.Math.Dec.{eqb}
use borrow.Author.Tests.{eqb-true, eqb-false, leb-true}
use Rattle.model.specs.Basics.{pick}
use Rattle.model.specs.Table.{max_nodes, max_limit, slots, node_count, limit_of, weight_at, first_at}
use Rattle.model.specs.Plan.{parent_at}
use Rattle.model.specs.Steps.{Child, entry_at, second_start, gain_of, child_of, children_of}
use Rattle.theory.specs.TableLinks.{parent_at_none}
use Rattle.theory.specs.TableChain.{chain_at}
use Rattle.theory.specs.SiblingsBack.{ChildOrNone, child_high, after_at}
use Rattle.columns.specs.Cells.{page_word, word_of, cell_at, GoodChild, GoodChildren, cell_entry}
use Rattle.columns.specs.CellsArrays.{child_in, children_in, children_good, children_length, EachGood, cell_in}
use Rattle.columns.specs.CellsRun.{nth_prev, block_at}
use Rattle.columns.specs.CellsNode.{figure_at, children_up_to, figure_good, child-nth_prev}
use Rattle.columns.specs.CellsNode.{children_same, ColumnsReady, ColumnsFilled}
use Rattle.columns.specs.declared.nodes.Nodes.{Nodes}

-- the figures, last children and columns of the nodes after v
pub record NodesPlanned (t : List ℕ) (g : Bool) (v : ℕ) (nodes : Nodes) (xs : List ℕ) : Type 0 where
  pub ready : ColumnsReady t nodes xs
  pub figures : (u : ℕ) → v < u → u ≤ node_count t → child_in nodes u ≡ figure_at t g u
  pub last_child : (w : ℕ) → v < w → w ≤ node_count t → ChildOrNone t w (get_or nodes.lasts w 0)
  pub link : (w : ℕ) → v < w → w ≤ node_count t → after_at t w (get_or nodes.lasts w 0) ≡ 0
  pub kids : (w : ℕ) → v < w → w ≤ node_count t → (h : Bool)
      → children_of h (limit_of t) (chain_at t (first_at t w)) ≡ children_up_to t h (get_or nodes.lasts w 0)
  pub columns : (w : ℕ) → v < w → w ≤ node_count t → (n s : ℕ) → weight_at t w ≤ s → s ≤ limit_of t
      → cell_in xs (limit_of t) (block_at (limit_of t) (nth_prev nodes.prevs n (get_or nodes.lasts w 0))) s
      ≡ cell_at (limit_of t) (children_up_to t g (nth_prev nodes.prevs n (get_or nodes.lasts w 0))) s

pub planned_none : {t : List ℕ} {nodes : Nodes} {xs : List ℕ} (g : Bool) → ColumnsReady t nodes xs
    → NodesPlanned t g (node_count t) nodes xs
planned_none g r =
    record {
      ready = r;
      figures = λ u p q. absurd (omega arith);
      last_child = λ u p q. absurd (omega arith);
      link = λ u p q. absurd (omega arith);
      kids = λ u p q. absurd (omega arith);
      columns = λ u p q. absurd (omega arith);
    }

-- ---- A node's figures

-- the rest in a word
pub word_rest : (count rest : ℕ) → rest < page_word → (count * page_word + rest) % page_word ≡ rest
word_rest count rest h = mul-add-mod_self_right count page_word rest ∙ mod-eq_of_lt h

-- the gain of a node of weight w and rest W, where r is the rest at its second start
abbrev pub gain_from : Bool → ℕ → ℕ → ℕ → ℕ → ℕ
gain_from g K w W r = pick g (pick (leb (second_start K w W) K) (W - (r - (K - W + 1))) 0) 0

same_gain : (g : Bool) (K w W x y : ℕ) → (second_start K w W ≤ K → x ≡ y) → gain_from g K w W x ≡ gain_from g K w W y
unfolding pick
same_gain false K w W x y h = refl
same_gain true K w W x y h = go (leb (second_start K w W) K) refl
  where
    go : (b : Bool) → leb (second_start K w W) K ≡ b → gain_from true K w W x ≡ gain_from true K w W y
    go true e = rw (h (leb-true (second_start K w W) K e)) refl
    go false e = rw e

second_later : (K w W : ℕ) → w ≤ second_start K w W
unfolding second_start
second_later K w W = omega arith

module _ {t : List ℕ} {nodes : Nodes} {xs ys : List ℕ} {g : Bool} {v r : ℕ} (low : 1 ≤ v) (high : v ≤ node_count t)
    (p : NodesPlanned t g v nodes xs) (f : ColumnsFilled t nodes v r xs ys)
  where
    abbrev K : ℕ
    K = limit_of t

    -- v's children, as the table has them
    abbrev kids : List Child
    kids = children_of g K (chain_at t (first_at t v))

    light : weight_at t v ≤ K
    light = p.ready.accepted.light v low high

    small : K ≤ max_limit
    small = p.ready.accepted.sound.limit_high

    same_children : (u : ℕ) → ChildOrNone t v u → children_in nodes u ≡ children_up_to t g u
    same_children = children_same t nodes g v p.ready.before p.figures

    good_children : GoodChildren K (children_up_to t g r)
    good_children = rw (same_children r f.last_child) at (children_good K nodes p.ready.good r)

    short_children : length (children_up_to t g r) ≤ max_nodes
    short_children =
        let l : length (children_in nodes r) ≤ r = children_length nodes p.ready.earlier r in
        let m : length (children_up_to t g r) ≤ r = rw (same_children r f.last_child) at l in
        omega (arith, child_high t v r f.last_child, p.ready.accepted.sound.count_high)

    rest_at : (s : ℕ) → weight_at t v ≤ s → s ≤ K
        → get_or ys (block_at K r + s) 0 % page_word ≡ (entry_at K kids s).rest
    unfolding nth_prev
    rest_at s a b =
        let e = cell_entry K (omega (arith, small)) (children_up_to t g r) s b good_children short_children in
        let c : get_or ys (block_at K r + s) 0 ≡ (cell_at K (children_up_to t g r) s).word =
        ap (λ x. x.word) (f.columns 0 s a b) ∙ ap (λ ks. (cell_at K ks s).word) (same_children r f.last_child) in
        let d : word_of (entry_at K (children_up_to t g r) s) % page_word ≡ (entry_at K (children_up_to t g r) s).rest =
        word_rest (entry_at K (children_up_to t g r) s).count (entry_at K (children_up_to t g r) s).rest
        (omega (arith, e.high, small)) in
        ap (λ x. x % page_word) (c ∙ e.word) ∙ d ∙ ap (λ ks. (entry_at K ks s).rest) (sym (f.kids g))

    -- from the words at the node's own start and at the second
    pub node_figures : (rest gain : ℕ) → rest ≡ get_or ys (block_at K r + weight_at t v) 0 % page_word
        → gain ≡ gain_from g K (weight_at t v) rest
        (get_or ys (block_at K r + second_start K (weight_at t v) rest) 0 % page_word)
        → record { rest = rest; gain = gain } ≡ figure_at t g v
    unfolding figure_at child_of gain_of
    node_figures rest gain d e =
        let W : ℕ = (entry_at K kids (weight_at t v)).rest in
        let same : rest ≡ W = d ∙ rest_at (weight_at t v) (omega arith) light in
        let second : ℕ = second_start K (weight_at t v) W in
        ap₂ (λ x y. record { rest = x; gain = y }) same
        (e
        ∙ ap (λ x. gain_from g K (weight_at t v) x
        (get_or ys (block_at K r + second_start K (weight_at t v) x) 0 % page_word)) same
        ∙ same_gain g K (weight_at t v) W (get_or ys (block_at K r + second) 0 % page_word)
        (entry_at K kids second).rest
        (λ h. rest_at second (second_later K (weight_at t v) W) h))

-- ---- One node more

-- the figures and the last child of node v are put
abbrev pub put_node : Nodes → ℕ → ℕ → ℕ → ℕ → Nodes
put_node nodes v rest gain last =
    record {
      prevs = nodes.prevs;
      rests = set nodes.rests v rest;
      gains = set nodes.gains v gain;
      lasts = set nodes.lasts v last;
    }

set-child : (nodes : Nodes) (v a b r u : ℕ) → v < length nodes.rests → v < length nodes.gains
    → child_in (put_node nodes v a b r) u ≡ pick (eqb u v) (record { rest = a; gain = b }) (child_in nodes u)
unfolding pick
set-child nodes v a b r u l m = go (eqb u v) refl
  where
    go : (x : Bool) → eqb u v ≡ x → child_in (put_node nodes v a b r) u
        ≡ pick x (record { rest = a; gain = b }) (child_in nodes u)
    go true e =
        let q : u ≡ v = eqb-true u v e in
        rw q (ap₂ (λ x y. record { rest = x; gain = y }) (get_or-set_same nodes.rests v a 0 l) (get_or-set_same nodes.gains v b 0 m))
    go false e =
        let q : u ≡ v → ⊥ = eqb-false u v e in
        ap₂ (λ x y. record { rest = x; gain = y }) (get_or-set_other nodes.rests v u a 0 q) (get_or-set_other nodes.gains v u b 0 q)

module _ {t : List ℕ} {nodes : Nodes} {xs ys : List ℕ} {g : Bool} {v r : ℕ} (low : 1 ≤ v) (high : v ≤ node_count t)
    (p : NodesPlanned t g v nodes xs) (f : ColumnsFilled t nodes v r xs ys)
    (rest gain : ℕ) (figure : record { rest = rest; gain = gain } ≡ figure_at t g v)
    (long-rests : length nodes.rests ≡ slots) (long-gains : length nodes.gains ≡ slots) (long-lasts : length nodes.lasts ≡ slots)
  where
    below : v < slots
    below = omega (arith, p.ready.accepted.sound.count_high)

    abbrev after : Nodes
    after = put_node nodes v rest gain r

    child_is : (u : ℕ) → child_in after u
        ≡ pick (eqb u v) (record { rest = rest; gain = gain }) (child_in nodes u)
    child_is u = set-child nodes v rest gain r u (omega (arith, below)) (omega (arith, below))

    step_good : EachGood (limit_of t) after
    unfolding pick
    step_good u = rw (child_is u) (go (eqb u v))
      where
        go : (b : Bool) → GoodChild (limit_of t) (pick b (record { rest = rest; gain = gain }) (child_in nodes u))
        go true = rw figure (figure_good t g v (p.ready.accepted.light v low high))
        go false = p.ready.good u

    step_figures : (u : ℕ) → v - 1 < u → u ≤ node_count t
        → child_in after u ≡ figure_at t g u
    unfolding pick
    step_figures u a b = child_is u ∙ go (eqb u v) refl
      where
        go : (x : Bool) → eqb u v ≡ x → pick x (record { rest = rest; gain = gain }) (child_in nodes u)
            ≡ figure_at t g u
        go true e = figure ∙ ap (figure_at t g) (sym (eqb-true u v e))
        go false e =
            let q : u ≡ v → ⊥ = eqb-false u v e in
            p.figures u (omega arith) b

    not_child : (w u : ℕ) → v < w → ChildOrNone t w u → parent_at t u ≡ v → ⊥
    not_child w u h (inl e) q =
        let z : parent_at t u ≡ 0 = ap (parent_at t) e ∙ parent_at_none t in
        omega (arith, z)
    not_child w u h (inr k) q = omega (arith, k.2)

    last_is : (w : ℕ) → get_or after.lasts w 0 ≡ pick (eqb w v) r (get_or nodes.lasts w 0)
    unfolding pick
    last_is w = go (eqb w v) refl
      where
        go : (x : Bool) → eqb w v ≡ x → get_or after.lasts w 0 ≡ pick x r (get_or nodes.lasts w 0)
        go true e = let q : w ≡ v = eqb-true w v e in rw q (get_or-set_same nodes.lasts v r 0 (omega (arith, below)))
        go false e = get_or-set_other nodes.lasts v w r 0 (eqb-false w v e)

    abbrev AtLast : ℕ → ℕ → Type 0
    AtLast w u = ChildOrNone t w u × (after_at t w u ≡ 0)
        × ((h : Bool) → children_of h (limit_of t) (chain_at t (first_at t w)) ≡ children_up_to t h u)
        × ((n s : ℕ) → weight_at t w ≤ s → s ≤ limit_of t
        → cell_in ys (limit_of t) (block_at (limit_of t) (nth_prev nodes.prevs n u)) s
        ≡ cell_at (limit_of t) (children_up_to t g (nth_prev nodes.prevs n u)) s)

    step_last : (w : ℕ) → v - 1 < w → w ≤ node_count t → AtLast w (get_or after.lasts w 0)
    unfolding pick
    step_last w a b = rw (last_is w) (go (eqb w v) refl)
      where
        go : (x : Bool) → eqb w v ≡ x → AtLast w (pick x r (get_or nodes.lasts w 0))
        go true e =
            let q : w ≡ v = eqb-true w v e in
            rw q (
              f.last_child,
              f.link,
              f.kids,
              λ n s c d. f.columns n s c d
                  ∙ ap (λ ks. cell_at (limit_of t) ks s)
                  (children_same t nodes g v p.ready.before p.figures (nth_prev nodes.prevs n r)
                  (child-nth_prev t nodes.prevs p.ready.before p.ready.none v n r f.last_child)),
            )
        go false e =
            let q : w ≡ v → ⊥ = eqb-false w v e in
            let l : v < w = omega arith in (
              p.last_child w l b,
              p.link w l b,
              p.kids w l b,
              λ n s c d.
                  f.others (nth_prev nodes.prevs n (get_or nodes.lasts w 0)) s
                  (not_child w (nth_prev nodes.prevs n (get_or nodes.lasts w 0)) l
                  (child-nth_prev t nodes.prevs p.ready.before p.ready.none w n (get_or nodes.lasts w 0)
                  (p.last_child w l b)))
                  d
                  ∙ p.columns w l b n s c d,
            )

    pub planned_step : NodesPlanned t g (v - 1) (put_node nodes v rest gain r) ys
    planned_step =
        record {
          ready =
              record {
                accepted = p.ready.accepted;
                good = step_good;
                before = p.ready.before;
                earlier = p.ready.earlier;
                none = p.ready.none;
                room = omega (arith, p.ready.room, f.long);
                root = λ s h.
                    f.others 0 s (λ q. omega (arith, parent_at_none t)) h ∙ p.ready.root s h;
              };
          figures = step_figures;
          last_child = λ w a b. (step_last w a b).0;
          link = λ w a b. (step_last w a b).1;
          kids = λ w a b. (step_last w a b).2;
          columns = λ w a b. (step_last w a b).3;
        }
