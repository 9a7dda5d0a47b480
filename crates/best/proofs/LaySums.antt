-- The sums over the last children up to a node, one member a turn. Defines Summing. Proves summing_start,
-- summing_high, next_low, next_joins, summing_turn and summing_end. Assumes nothing.
use Prim.Native.Nat.{ℕ, suc, ◌+◌, ◌≤◌, ◌<◌}
use mathlib.Core.Path.{◌≡◌, refl, sym, ◌∙◌, ap}
use mathlib.Core.List.{List, [], ◌∷◌}
use native.Mathlib.Omega.{arith}
use lib.ListN.{length, get_or, drop, length-set, length-replicate}
use Rattle.model.specs.Table.{max_nodes, max_limit}
use Rattle.model.specs.Steps.{Child}
use Rattle.columns.specs.Cells.{last_children, last_children_one}
use Rattle.columns.specs.CellsArrays.{children_in, EachGood, child_in, children_cons, children_length}
use Rattle.columns.specs.CellsRun.{RunSums, sums_none, sums_more, sums_joins, nth_prev, nth_prev_le}
use Rattle.columns.specs.declared.run.Sums.{Sums}
use Rattle.columns.specs.CellsSums.{gain_slots, no_sums, joined_sums}
use Rattle.best.specs.LayContracts.{SumReady, SumDone}
use Rattle.columns.specs.declared.nodes.Nodes.{Nodes}
use Rattle.best.proofs.LayRuns.{children-nth_prev, children_nodes}

-- so many members are joined, and `next` comes before them
pub record Summing (nodes : Nodes) (c n : ℕ) (sums : Sums) (next : ℕ) : Type 0 where
  pub at : next ≡ nth_prev nodes.prevs sums.len c
  pub below : sums.len ≤ n
  pub wide : length sums.counts ≡ gain_slots
  pub kept : (K : ℕ) → EachGood K nodes
      → RunSums K (last_children sums.len [] (children_in nodes c)) sums

module _ {nodes : Nodes} {c n : ℕ} (ready : SumReady c n nodes) where
  abbrev children : ℕ → List Child
  children u = children_in nodes u

  pub summing_start : (sums : Sums) → sums ≡ no_sums → Summing nodes c n sums c
  unfolding last_children nth_prev
  summing_start sums e =
      rw e
      (record {
        at = refl;
        below = omega arith;
        wide = length-replicate {A = ℕ} gain_slots 0;
        kept = λ K good. sums_none K gain_slots;
      })

  module _ {sums : Sums} {next : ℕ} (s : Summing nodes c n sums next) where
    children_high : length (children c) ≤ max_nodes
    children_high = omega (arith, children_length nodes ready.earlier c, ready.high)

    pub summing_high : next ≤ max_nodes
    summing_high = omega (arith, s.at, nth_prev_le nodes.prevs ready.earlier ready.none sums.len c, ready.high)

    -- the next is a node, and may join
    pub next_low : sums.len < n → 1 ≤ next
    next_low h = rw s.at (children_nodes nodes ready.earlier sums.len c (omega (arith, ready.within)))

    pub next_joins : (get_or nodes.gains next 0 ≤ max_limit) × (get_or sums.counts (get_or nodes.gains next 0) 0 < 65535)
        × (sums.len < 4294967295)
        × (sums.total + get_or nodes.rests next 0 < 4294967296) × (sums.gained + get_or nodes.gains next 0 < 4294967296)
    next_joins =
        sums_joins (s.kept max_limit ready.good) (omega arith)
        (omega (arith, s.below, children_high, ready.within)) (child_in nodes next) (ready.good next)

    pub summing_turn : sums.len < n → (r : Sums) → r ≡ joined_sums sums (get_or nodes.rests next 0) (get_or nodes.gains next 0)
        → Summing nodes c n r (get_or nodes.prevs next 0)
    unfolding nth_prev
    summing_turn h r e =
        let one : sums.len + 1 ≡ suc sums.len = omega arith in
        let shape : drop sums.len (children c) ≡ child_in nodes next ∷ children (get_or nodes.prevs next 0) =
        sym (children-nth_prev nodes ready.earlier sums.len c (omega (arith, ready.within)))
        ∙ ap children (sym s.at)
        ∙ children_cons nodes ready.earlier next (next_low h) in
        let pull : last_children (suc sums.len) [] (children c)
        ≡ child_in nodes next ∷ last_children sums.len [] (children c) =
        (last_children_one sums.len [] (children c) (child_in nodes next) (children (get_or nodes.prevs next 0)) shape).0 in
        rw e
        record {
          at = rw one (ap (λ u. get_or nodes.prevs u 0) s.at);
          below = omega arith;
          wide = simp length-set s.wide;
          kept = λ K good.
              let more = sums_more (s.kept K good) (child_in nodes next) (good next)
              (omega (arith, next_joins.0, s.wide)) in
              rw (ap (λ k. last_children k [] (children c)) one ∙ pull) more;
        }

    pub summing_end : n ≤ sums.len → SumDone c n nodes sums
    summing_end h K good = let e : n ≡ sums.len = omega (arith, s.below) in rw e (s.kept K good)
