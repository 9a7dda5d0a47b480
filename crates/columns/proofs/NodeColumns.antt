-- The columns of a node's children, one child after another. Defines Filling. Proves filling_start, filling_next,
-- filling_column, filling_turn and filling_end; open_turn, for the column of no child. Assumes nothing.
use Prim.Native.Nat.{ℕ, zero, suc, ◌+◌, ◌*◌, ◌≤◌, ◌<◌}
use mathlib.Core.Path.{◌≡◌, refl, ◌∙◌, ap, ap₂}
use mathlib.Core.Bool.{Bool, true, false}
use mathlib.Core.List.{List, []}
use mathlib.Core.Logic.{◌⊎◌, inl, inr}
use native.Mathlib.Omega.{arith}
use lib.ListN.{length, get_or, set}
use lib.Dec.{eqb, ltb}
use borrow.Author.Tests.{ltb-true, ltb-false, ne_eqb}
use Rattle.model.specs.Basics.{pick}
use Rattle.model.specs.Table.{node_count, limit_of, weight_at, first_at, next_at}
use Rattle.model.specs.Plan.{parent_at}
use Rattle.theory.specs.Ranges.{pick_false}
use Rattle.theory.specs.TableLinks.{prev_at_less}
use Rattle.theory.specs.SiblingsBack.{ChildOrNone, after_at}
use Rattle.columns.specs.Cells.{Cell, cell_at}
use Rattle.columns.specs.CellsArrays.{children_in, children_none, cell_in, Swept, Sweeping, sweep_turn}
use Rattle.columns.specs.CellsRun.{nth_prev, nth_prev_shift, nth_prev_le, block_at, block_apart, Fillable}
use Rattle.columns.specs.CellsNode.{NextChild, KidsFrom, kids_first, first_child, next_child}
use Rattle.columns.specs.CellsNode.{kids_step, kids_end, ColumnsBack, ColumnsReady}
use Rattle.columns.specs.CellsNode.{ColumnsFilled}
use Rattle.columns.specs.declared.nodes.Nodes.{Nodes}

-- one start more of the column of no child, whose block is the first
pub open_turn : (K s : ℕ) (xs ys : List ℕ) → Sweeping K 0 0 s (λ u. cell_at K [] u) xs ys → s ≤ K
    → 2 * (K + 1) ≤ length xs
    → Sweeping K 0 0 (s + 1) (λ u. cell_at K [] u) xs (set (set ys s s) (K + 1 + s) 0)
unfolding cell_at
open_turn K s xs ys w high room =
    let a : 0 + s ≡ s = omega arith in
    let b : 0 + (K + 1) ≡ K + 1 = omega arith in
    rw (a, b) at (sweep_turn K 0 0 s (λ u. cell_at K [] u) xs ys s 0 w high (omega arith) refl)

-- the columns of v's children up to `last` are filled, `child` is the next or 0, and no other block is changed
pub record Filling (t : List ℕ) (nodes : Nodes) (v last child : ℕ) (xs ys : List ℕ) : Type 0 where
  pub long : length ys ≡ length xs
  pub last_child : ChildOrNone t v last
  pub link : after_at t v last ≡ child
  pub next : (child ≡ 0) ⊎ NextChild t v child last
  pub kids : KidsFrom t v child last
  pub columns : ColumnsBack (limit_of t) (weight_at t v) nodes ys last
  pub others : (u s : ℕ) → (parent_at t u ≡ v → ⊥) → s ≤ limit_of t
      → cell_in ys (limit_of t) (block_at (limit_of t) u) s ≡ cell_in xs (limit_of t) (block_at (limit_of t) u) s

-- a block before or after the swept one is kept
other_block : (K start c : ℕ) (f : ℕ → Cell) (xs ys : List ℕ) → Swept K start (block_at K c) f xs ys → (u s : ℕ)
    → s ≤ K → (u ≡ c → ⊥)
    → cell_in ys K (block_at K u) s ≡ cell_in xs K (block_at K u) s
other_block K start c f xs ys w u s high other = go (ltb u c) refl
  where
    go : (b : Bool) → ltb u c ≡ b → cell_in ys K (block_at K u) s ≡ cell_in xs K (block_at K u) s
    go true q =
        let apart : block_at K u + 2 * (K + 1) ≤ block_at K c = block_apart K u c (ltb-true u c q) in
        ap₂ (λ a b. record { word = a; run = b }) (w.below (block_at K u + s) (omega arith))
        (w.below (block_at K u + (K + 1) + s) (omega arith))
    go false q =
        let le : c ≤ u = ltb-false u c q in
        let apart : block_at K c + 2 * (K + 1) ≤ block_at K u = block_apart K c u (omega arith) in
        ap₂ (λ a b. record { word = a; run = b }) (w.above (block_at K u + s) (omega arith))
        (w.above (block_at K u + (K + 1) + s) (omega arith))

module _ {t : List ℕ} {nodes : Nodes} {xs : List ℕ} (r : ColumnsReady t nodes xs) (v : ℕ) (low : 1 ≤ v)
    (high : v ≤ node_count t) where
  pub filling_start : Filling t nodes v 0 (first_at t v) xs xs
  unfolding pick
  filling_start =
      record {
        long = refl;
        last_child = inl refl;
        link = refl;
        next = first_child r.accepted.sound v low high;
        kids = kids_first r.accepted.sound v low high;
        columns = λ n s a b. rw (none n, children_none nodes r.earlier) (r.root s b);
        others = λ u s p h. refl;
      }
    where
      none : (n : ℕ) → nth_prev nodes.prevs n 0 ≡ 0
      none n = let l : nth_prev nodes.prevs n 0 ≤ 0 = nth_prev_le nodes.prevs r.earlier r.none n 0 in omega arith

  module _ (last child : ℕ) (ys : List ℕ) (f : Filling t nodes v last child xs ys)
      (some : child ≡ 0 → ⊥) where
    pub filling_next : NextChild t v child last
    filling_next = go f.next
      where
        go : (child ≡ 0) ⊎ NextChild t v child last → NextChild t v child last
        go (inl e) = absurd (some e)
        go (inr n) = n

    before : get_or nodes.prevs child 0 ≡ last
    before = r.before child filling_next.low filling_next.high ∙ filling_next.prev

    pub later : last < child
    later = omega (arith, prev_at_less t child filling_next.low, filling_next.prev)

    nth_prev_is : (n : ℕ) → nth_prev nodes.prevs (suc n) child ≡ nth_prev nodes.prevs n last
    nth_prev_is n = nth_prev_shift nodes.prevs n child ∙ ap (nth_prev nodes.prevs n) before

    pub filling_column : Fillable (limit_of t) (weight_at t v) child nodes ys
    filling_column =
        let n = filling_next in
        let apart : block_at (limit_of t) child + 2 * (limit_of t + 1) ≤ block_at (limit_of t) (node_count t + 1) =
        block_apart (limit_of t) child (node_count t + 1) (omega (arith, n.high)) in
        record {
          node_low = n.low;
          node_high = omega (arith, n.high, r.accepted.sound.count_high);
          limit_high = r.accepted.sound.limit_high;
          room = omega (arith, apart, r.room, f.long);
          earlier = r.earlier;
          none = r.none;
          good = r.good;
          columns = λ n s a b. rw (nth_prev_is n) (ap (λ c. c.word) (f.columns n s a b));
        }

    pub filling_turn : (zs : List ℕ)
        → Swept (limit_of t) (weight_at t v) (block_at (limit_of t) child)
        (λ s. cell_at (limit_of t) (children_in nodes child) s) ys zs
        → Filling t nodes v child (next_at t child) xs zs
    unfolding nth_prev
    filling_turn zs w =
        let n = filling_next in
        record {
          long = w.long ∙ f.long;
          last_child = inr (n.low, n.high, n.parent);
          link = pick_false (eqb child 0) (first_at t v) (next_at t child) (ne_eqb child 0 some);
          next = next_child r.accepted.sound v low high child last n;
          kids = kids_step r.accepted.sound v low high child last n f.kids;
          columns = columns;
          others = λ u s p h. other_block _ _ _ _ _ _ w u s h (λ e. p (ap (parent_at t) e ∙ n.parent))
              ∙ f.others u s p h;
        }
      where
        columns : ColumnsBack (limit_of t) (weight_at t v) nodes zs child
        columns zero s a b = w.cells s a b
        columns (suc n) s a b =
            let le : nth_prev nodes.prevs n last ≤ last = nth_prev_le nodes.prevs r.earlier r.none n last in
            rw (nth_prev_is n) (other_block _ _ _ _ _ _ w (nth_prev nodes.prevs n last) s b (λ e. omega (arith, later))
            ∙ f.columns n s a b)

pub filling_end : {t : List ℕ} {nodes : Nodes} {xs ys : List ℕ} (v last child : ℕ)
    → Filling t nodes v last child xs ys → child ≡ 0
    → ColumnsFilled t nodes v last xs ys
filling_end {t} v last child f z =
    record {
      long = f.long;
      last_child = f.last_child;
      link = f.link ∙ z;
      kids = kids_end t v last (rw z at f.kids);
      columns = f.columns;
      others = f.others;
    }
