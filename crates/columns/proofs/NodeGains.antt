-- What is read of a node from the block of its last child. Proves gain_none and gain_found (the gain by its tests),
-- block_fits and rest_fits (the reads are within bounds), gain_fits and node_planned (one node more). Assumes nothing.
use Prim.Native.Nat.{ℕ, ◌+◌, ◌-◌, ◌*◌, ◌%◌, ◌≤◌, ◌<◌}
use mathlib.Core.Path.{◌≡◌, refl, ◌∙◌, ap}
use mathlib.Core.Bool.{Bool, true, false}
use mathlib.Core.Logic.{◌⊎◌, inl, inr}
use mathlib.Core.List.{List}
use native.Mathlib.Omega.{arith}
use lib.ListN.{length, get_or}
use borrow.Author.Tests.{le-leb, lt-leb}
use Rattle.model.specs.Basics.{pick}
use Rattle.model.specs.Table.{slots, node_count, limit_of, weight_at}
use Rattle.model.specs.Steps.{second_start}
use Rattle.theory.specs.SiblingsBack.{child_high}
use Rattle.columns.specs.Cells.{page_word, GoodChild}
use Rattle.columns.specs.CellsRun.{block_at, block_apart}
use Rattle.columns.specs.CellsNode.{ColumnsFilled, figure_at, figure_good}
use Rattle.columns.specs.CellsPlan.{NodesPlanned, gain_from, node_figures, put_node, planned_step}
use Rattle.columns.specs.declared.nodes.Nodes.{Nodes}

-- there is no second plan
pub gain_none : (g : Bool) (K w W x : ℕ) → (g ≡ false) ⊎ ((g ≡ true) × (K < w + (K - W) + 1))
    → 0 ≡ gain_from g K w W x
unfolding pick second_start
gain_none g K w W x (inl e) = rw e refl
gain_none g K w W x (inr p) = rw (p.0, lt-leb (w + (K - W) + 1) K p.1) refl

-- there is one: y is what the rest at its start has over the rest of the first page
pub gain_found : (g : Bool) (K w W : ℕ) (xs : List ℕ) (here y z : ℕ) → g ≡ true → w + (K - W) + 1 ≤ K
    → y ≡ get_or xs (here + (w + (K - W) + 1)) 0 % page_word - (K - W + 1) → z ≡ W - y
    → z ≡ gain_from g K w W (get_or xs (here + second_start K w W) 0 % page_word)
unfolding pick second_start
gain_found g K w W xs here y z e l p q = rw (e, le-leb (w + (K - W) + 1) K l) (q ∙ ap (λ n. W - n) p)

module _ {t : List ℕ} {nodes : Nodes} {xs ys : List ℕ} {g : Bool} {v r : ℕ} (low : 1 ≤ v) (high : v ≤ node_count t)
    (p : NodesPlanned t g v nodes xs) (f : ColumnsFilled t nodes v r xs ys)
  where
    pub block_fits : block_at (limit_of t) r + 2 * (limit_of t + 1) ≤ length ys
    block_fits =
        let apart = block_apart (limit_of t) r (node_count t + 1) (omega (arith, child_high t v r f.last_child)) in
        omega (arith, apart, p.ready.room, f.long)

    module _ (K w here rest : ℕ) (limit : K ≡ limit_of t) (weight : w ≡ weight_at t v) (block : here ≡ block_at K r)
        (is : rest ≡ get_or ys (here + w) 0 % page_word)
      where
        abbrev Gain : ℕ → Type 0
        Gain gain = gain ≡ gain_from g K w rest (get_or ys (here + second_start K w rest) 0 % page_word)

        figure : (gain : ℕ) → Gain gain → record { rest = rest; gain = gain } ≡ figure_at t g v
        figure gain e =
            let here_is : here ≡ block_at (limit_of t) r = block ∙ ap (λ k. block_at k r) limit in
            node_figures low high p f rest gain (rw (here_is, weight) at is) (rw (here_is, weight, limit) at e)

        good : (gain : ℕ) → Gain gain → GoodChild (limit_of t) (record { rest = rest; gain = gain })
        good gain e = rw (figure gain e) (figure_good t g v (p.ready.accepted.light v low high))

        pub rest_fits : rest ≤ K
        rest_fits = omega (arith, (good _ refl).light, limit)

        pub gain_fits : (gain : ℕ) → Gain gain → gain ≤ rest
        gain_fits gain e = (good gain e).fits

        pub node_planned : (gain : ℕ) → Gain gain → length nodes.rests ≡ slots → length nodes.gains ≡ slots → length nodes.lasts ≡ slots
            → NodesPlanned t g (v - 1) (put_node nodes v rest gain r) ys
        node_planned gain e = planned_step low high p f rest gain (figure gain e)
