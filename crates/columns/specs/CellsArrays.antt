-- A node's children as they stand in arrays of rests, gains and siblings before, and the cells of a child as they
-- stand in a block of words: K + 1 words of cells, then K + 1 lengths of runs.
-- Defines child_in, children_in, EachGood; cell_in, Swept, Sweeping. Proves children_cons, children_length,
-- children_good; and sweep_none, sweep_turn, sweep_end: a sweep over the starts of a block, one store of a cell a turn.
-- Assumes nothing.
use Rattle.std.specs.Prelude.{ℕ, zero, suc, ◌+◌, ◌*◌, ◌≤◌, ◌<◌, ◌≡◌, refl, Bool, List, [], ◌∷◌, set}
use Rattle.std.proofs.Common.{◌∙◌, get_or-set_other}
use Rattle.std.proofs.Math.Path.{ap₂}
use Rattle.std.proofs.Math.Bool.{true, false}
use native.Mathlib.Omega.{arith}
use Rattle.std.proofs.Math.ListN.{length, get_or, length-set}
use Rattle.std.proofs.Math.Seq.{get_or-set_same}
use Rattle.std.proofs.Math.Dec.{eqb}
use borrow.Author.Tests.{eqb-true, eqb-false}
use Rattle.model.specs.Steps.{Child}
use Rattle.theory.specs.SiblingsBack.{back_from, list_back, list_none, list_cons, list_length, Earlier}
use Rattle.columns.specs.Cells.{Cell, GoodChild, GoodChildren}
use Rattle.columns.specs.declared.nodes.Nodes.{Nodes}

-- ---- Children in arrays

-- child u by its rest and its gain
abbrev pub child_in : Nodes → ℕ → Child
child_in nodes u = record { rest = get_or nodes.rests u 0; gain = get_or nodes.gains u 0 }

-- the children up to u, the last first
unfoldable pub children_in : Nodes → ℕ → List Child
children_in nodes u = list_back (child_in nodes) (λ v. get_or nodes.prevs v 0) u

-- each child weighs at most K, and gains no more than it weighs
abbrev pub EachGood : ℕ → Nodes → Type 0
EachGood K nodes = (u : ℕ) → GoodChild K (child_in nodes u)

module _ (nodes : Nodes) (earlier : Earlier nodes.prevs) where
  pub children_none : children_in nodes 0 ≡ []
  unfolding children_in
  children_none = list_none (child_in nodes) (λ v. get_or nodes.prevs v 0)

  pub children_cons : (u : ℕ) → 1 ≤ u
      → children_in nodes u ≡ child_in nodes u ∷ children_in nodes (get_or nodes.prevs u 0)
  unfolding children_in
  children_cons = list_cons (child_in nodes) (λ v. get_or nodes.prevs v 0) earlier

  pub children_length : (u : ℕ) → length (children_in nodes u) ≤ u
  unfolding children_in
  children_length = list_length (child_in nodes) (λ v. get_or nodes.prevs v 0) earlier

children_good_from : (K : ℕ) (nodes : Nodes) → EachGood K nodes → (f u : ℕ)
    → GoodChildren K (back_from f (child_in nodes) (λ v. get_or nodes.prevs v 0) u)
unfolding back_from GoodChildren
children_good_from K nodes h zero u = tt
children_good_from K nodes h (suc f) zero = tt
children_good_from K nodes h (suc f) (suc u) =
    (h (suc u), children_good_from K nodes h f (get_or nodes.prevs (suc u) 0))

pub children_good : (K : ℕ) (nodes : Nodes) → EachGood K nodes → (u : ℕ)
    → GoodChildren K (children_in nodes u)
unfolding children_in list_back
children_good K nodes h u = children_good_from K nodes h u u

-- ---- Cells in a block

-- the cell at start s of the block that begins at `here`
abbrev pub cell_in : List ℕ → ℕ → ℕ → ℕ → Cell
cell_in xs K here s = record { word = get_or xs (here + s) 0; run = get_or xs (here + (K + 1) + s) 0 }

-- the cells at the starts from `start` on are set to those of f, and nothing else is changed but in the block
pub record Swept (K start here : ℕ) (f : ℕ → Cell) (xs ys : List ℕ) : Type 0 where
  pub long : length ys ≡ length xs
  pub cells : (s : ℕ) → start ≤ s → s ≤ K → cell_in ys K here s ≡ f s
  pub below : (i : ℕ) → i < here → get_or ys i 0 ≡ get_or xs i 0
  pub above : (i : ℕ) → here + 2 * (K + 1) ≤ i → get_or ys i 0 ≡ get_or xs i 0

-- the same up to the start s
pub record Sweeping (K start here s : ℕ) (f : ℕ → Cell) (xs ys : List ℕ) : Type 0 where
  pub long : length ys ≡ length xs
  pub swept : (u : ℕ) → start ≤ u → u < s → cell_in ys K here u ≡ f u
  pub left : (u : ℕ) → s ≤ u → u ≤ K → cell_in ys K here u ≡ cell_in xs K here u
  pub below : (i : ℕ) → i < here → get_or ys i 0 ≡ get_or xs i 0
  pub above : (i : ℕ) → here + 2 * (K + 1) ≤ i → get_or ys i 0 ≡ get_or xs i 0

pub sweep_none : (K start here : ℕ) (f : ℕ → Cell) (xs : List ℕ) → Sweeping K start here start f xs xs
sweep_none K start here f xs =
    record {
      long = refl;
      swept = λ u p q. absurd (omega arith);
      left = λ u p q. refl;
      below = λ i p. refl;
      above = λ i p. refl;
    }

pub sweep_end : {K start here s : ℕ} {f : ℕ → Cell} {xs ys : List ℕ} → Sweeping K start here s f xs ys → K < s
    → Swept K start here f xs ys
sweep_end w h =
    record { long = w.long; cells = λ u p q. w.swept u p (omega arith); below = w.below; above = w.above }

-- two stores, at other places
store_two : (ys : List ℕ) (a b x y i : ℕ) → (i ≡ a → ⊥) → (i ≡ b → ⊥) → get_or (set (set ys a x) b y) i 0 ≡ get_or ys i 0
store_two ys a b x y i p q = get_or-set_other (set ys a x) b i y 0 q ∙ get_or-set_other ys a i x 0 p

module _ (K start here s : ℕ) (f : ℕ → Cell) (xs ys : List ℕ) (word run : ℕ) (w : Sweeping K start here s f xs ys)
    (high : s ≤ K)
    (room : here + 2 * (K + 1) ≤ length xs)
  where
    after : List ℕ
    after = set (set ys (here + s) word) (here + (K + 1) + s) run

    other_cell : (u : ℕ) → u ≤ K → (u ≡ s → ⊥) → cell_in after K here u ≡ cell_in ys K here u
    unfolding after
    other_cell u l n =
        ap₂ (λ a b. record { word = a; run = b })
        (store_two ys (here + s) (here + (K + 1) + s) word run (here + u) (λ e. n (omega arith)) (λ e. omega arith))
        (store_two ys (here + s) (here + (K + 1) + s) word run (here + (K + 1) + u) (λ e. omega arith)
        (λ e. n (omega arith)))

    this_cell : cell_in after K here s ≡ record { word = word; run = run }
    unfolding after
    this_cell =
        let d : here + s ≡ here + (K + 1) + s → ⊥ = λ e. omega arith in
        let l : here + s < length ys = omega (arith, w.long) in
        let m : here + (K + 1) + s < length (set ys (here + s) word) = simp length-set (omega (arith, w.long)) in
        ap₂ (λ a b. record { word = a; run = b })
        (get_or-set_other (set ys (here + s) word) (here + (K + 1) + s) (here + s) run 0 d
        ∙ get_or-set_same ys (here + s) word 0 l)
        (get_or-set_same (set ys (here + s) word) (here + (K + 1) + s) run 0 m)

    pub sweep_turn : record { word = word; run = run } ≡ f s
        → Sweeping K start here (s + 1) f xs (set (set ys (here + s) word) (here + (K + 1) + s) run)
    unfolding after
    sweep_turn e =
        record {
          long = simp length-set w.long;
          swept = λ u p q. go u p q (eqb u s) refl;
          left = λ u p q. other_cell u q (λ n. omega arith) ∙ w.left u (omega arith) q;
          below = λ i p. store_two ys (here + s) (here + (K + 1) + s) word run i (λ n. omega arith) (λ n. omega arith)
              ∙ w.below i p;
          above = λ i p. store_two ys (here + s) (here + (K + 1) + s) word run i (λ n. omega arith) (λ n. omega arith)
              ∙ w.above i p;
        }
      where
        go : (u : ℕ) → start ≤ u → u < s + 1 → (b : Bool) → eqb u s ≡ b → cell_in after K here u ≡ f u
        go u p q true t = let same : u ≡ s = eqb-true u s t in rw same (this_cell ∙ e)
        go u p q false t =
            let n : u ≡ s → ⊥ = eqb-false u s t in
            other_cell u (omega arith) n ∙ w.swept u p (omega arith)
