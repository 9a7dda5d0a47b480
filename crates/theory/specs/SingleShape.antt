-- The plan of the single planner is feasible, by shape.
-- Proves cut_down_reduced (what a node keeps of its children), single_laid (a chain of siblings under any cuts of its
-- remainders: what stays weighs the members' rests, nothing is carried, and the pages are within the limit) and
-- single_feasible (the plan of a tree). Assumes nothing.
use Rattle.std.specs.Prelude.{ℕ, ◌+◌, ◌-◌, ◌≤◌, ◌≡◌, refl, Bool, true, false, List, ◌∷◌, ◌⊎◌}
use Rattle.std.proofs.Common.{inl, inr, arith}
use Rattle.std.proofs.Math.Nat.{zero-add}
use Rattle.model.specs.Basics.{pick}
use Rattle.model.specs.Table.{Chain, end, node}
use Rattle.model.specs.Steps.{Member, rest_sum, whole, cut_down, remainders, lay_single, single_marks, lay_down}
use Rattle.theory.specs.PlanShape.{EachWithin}
use Rattle.theory.specs.Reduce.{EachMember, Whole, cut_off, Cuts, cuts_none, cuts_one, Reduced, reduce_whole}
use Rattle.theory.specs.PlanLaid.{MarksLaid, laid_end, laid_stays, laid_begins, FeasibleShape, feasible_tree}

remainders_whole : (K : ℕ) (c : Chain) → EachMember Whole (remainders K c)
unfolding EachMember remainders whole
remainders_whole K end = tt
remainders_whole K (node w l kids next) = (refl, remainders_whole K next)

-- what a node of weight w keeps of its children
pub cut_down_reduced : (K w : ℕ) (kids : Chain) → Reduced (K - w) (remainders K kids) (cut_down K w (remainders K kids))
unfolding cut_down
cut_down_reduced K w kids = reduce_whole (K - w) (remainders K kids) (remainders_whole K kids)

-- a node of weight w, its children under their cuts, and the siblings after it under ms, by what became of the node
module _ (K w l : ℕ) (kids next : Chain) (ms : List Member) where
  abbrev held : ℕ
  held = rest_sum (cut_down K w (remainders K kids))

  single_node : (run : Bool) (m : Member) → w ≤ K
      → MarksLaid K false kids (lay_single K kids (cut_down K w (remainders K kids))) held 0
      → ((after : Bool) → MarksLaid K after next (lay_single K next ms) (rest_sum ms) 0)
      → (m ≡ whole (w + held)) ⊎ (m ≡ cut_off)
      → MarksLaid K run (node w l kids next) (lay_single K (node w l kids next) (m ∷ ms)) (rest_sum (m ∷ ms)) 0
  unfolding lay_down rest_sum pick whole
  single_node run m h a b (inl e) = rw e (laid_stays K w l a run (b false))
  single_node run m h a b (inr e) = rw (e, zero-add (rest_sum ms))
      (laid_begins K w l a run (b true) (omega (arith, (cut_down_reduced K w kids).fits)))

single_laid : (K : ℕ) (c : Chain) (ms : List Member) → EachWithin K c → Cuts (remainders K c) ms
    → (run : Bool) → MarksLaid K run c (lay_single K c ms) (rest_sum ms) 0
unfolding EachWithin remainders lay_down rest_sum
single_laid K end ms h cuts_none run = laid_end K run
single_laid K (node w l kids next) ms h (cuts_one {x = x} {xs = xs} c r) run =
    single_node K w l kids next xs run x h.0
    (single_laid K kids (cut_down K w (remainders K kids)) h.1 (cut_down_reduced K w kids).cuts false)
    (single_laid K next xs h.2 r) c

-- the plan of a tree: the root's page holds the root and what its children keep
pub single_feasible : (K w l : ℕ) (kids : Chain) → EachWithin K (node w l kids end)
    → FeasibleShape K (node w l kids end) (single_marks K (node w l kids end))
    (w + rest_sum (cut_down K w (remainders K kids)))
unfolding EachWithin single_marks lay_down pick
single_feasible K w l kids h =
    let cut = cut_down_reduced K w kids in
    let in-kids = single_laid K kids (cut_down K w (remainders K kids)) h.1 cut.cuts false in
    feasible_tree K w l in-kids (omega arith)
