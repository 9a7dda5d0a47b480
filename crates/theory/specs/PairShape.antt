-- The plan of the pair planner is feasible, by shape: the remainders of the two-way tree are the weights of pages.
-- Proves sides_sum (what a node keeps of its two sides), remainder_fits, pair_laid (a chain that is uncut leaves its
-- remainder to the parent's page, or to the run that it continues, and a cut one leaves nothing) and pair_feasible
-- (the plan of a tree). Assumes nothing.
use Rattle.std.specs.Prelude.{ℕ, ◌+◌, ◌-◌, ◌≤◌, ◌≡◌, refl, Bool, List, [], ◌∷◌, ◌⊎◌}
use Rattle.std.proofs.Math.Bool.{true, false}
use Rattle.std.proofs.Common.{inl, inr, arith}
use Rattle.model.specs.Basics.{pick}
use Rattle.model.specs.Table.{Chain, end, node}
use Rattle.model.specs.Plan.{stays, continues}
use Rattle.model.specs.Steps.{Member, rest_sum, whole, cut_down, sides, remainder, taken_at, lay_pair, pair_marks}
use Rattle.theory.specs.PlanShape.{EachWithin}
use Rattle.theory.specs.Reduce.{EachMember, cut_off, Cuts, cuts_none, cuts_one, Reduced, reduce_whole}
use Rattle.theory.specs.PlanLaid.{MarksLaid, laid_end, laid_stays, laid_begins, laid_continues, FeasibleShape}
use Rattle.theory.specs.PlanLaid.{feasible_tree}

-- what is left of a side that weighs r
abbrev pub unless_cut : Bool → ℕ → ℕ
unless_cut cut r = pick cut 0 r

-- ---- The two sides of a node

kept_rest : (r : ℕ) (x : Member) → (x ≡ whole r) ⊎ (x ≡ cut_off) → x.rest ≡ unless_cut x.taken r
unfolding whole pick
kept_rest r x (inl e) = rw e
kept_rest r x (inr e) = rw e

two_sum : (left right : ℕ) (ms : List Member) → Cuts (whole left ∷ whole right ∷ []) ms
    → rest_sum ms ≡ unless_cut (taken_at 0 ms) left + unless_cut (taken_at 1 ms) right
unfolding rest_sum taken_at
two_sum left right ms (cuts_one {x = x} c (cuts_one {x = y} d cuts_none)) =
    omega (arith, kept_rest left x c, kept_rest right y d)

module _ (K w left right : ℕ) where
  sides_reduced : Reduced (K - w) (whole left ∷ whole right ∷ []) (sides K w left right)
  unfolding sides cut_down EachMember whole
  sides_reduced = reduce_whole (K - w) (whole left ∷ whole right ∷ []) (refl, (refl, tt))

  -- what a node keeps of its sides is what was not cut
  sides_sum : rest_sum (sides K w left right)
      ≡ unless_cut (taken_at 0 (sides K w left right)) left + unless_cut (taken_at 1 (sides K w left right)) right
  sides_sum = two_sum left right (sides K w left right) sides_reduced.cuts

  sides_within : rest_sum (sides K w left right) ≤ K - w
  sides_within = sides_reduced.fits

-- whether the first child, and the next sibling, of a node is cut
module _ (K w : ℕ) (kids next : Chain) where
  abbrev kids_side_cut : Bool
  kids_side_cut = taken_at 0 (sides K w (remainder K kids) (remainder K next))

  abbrev next_side_cut : Bool
  next_side_cut = taken_at 1 (sides K w (remainder K kids) (remainder K next))

  pub remainder_node : (l : ℕ) → remainder K (node w l kids next)
      ≡ w + unless_cut kids_side_cut (remainder K kids) + unless_cut next_side_cut (remainder K next)
  unfolding remainder
  remainder_node l = omega (arith, sides_sum K w (remainder K kids) (remainder K next))

pub remainder_fits : (K : ℕ) (c : Chain) → EachWithin K c → remainder K c ≤ K
unfolding EachWithin remainder
remainder_fits K end h = omega arith
remainder_fits K (node w l kids next) h = omega (arith, sides_within K w (remainder K kids) (remainder K next))

-- ---- A chain

-- a chain whose first node, where it is uncut, stays, and one where it continues a run
record PairLaid (K : ℕ) (c : Chain) : Type 0 where
  staying : (cut run : Bool) → MarksLaid K run c (lay_pair K c cut stays) (unless_cut cut (remainder K c)) 0
  going_on : (cut : Bool) → MarksLaid K true c (lay_pair K c cut continues) 0 (unless_cut cut (remainder K c))

module _ (K w l : ℕ) (kids next : Chain) (in-kids : PairLaid K kids) (in-next : PairLaid K next)
    (fits : remainder K (node w l kids next) ≤ K)
  where
    abbrev this : Chain
    this = node w l kids next

    kids_laid : MarksLaid K false kids (lay_pair K kids (kids_side_cut K w kids next) stays)
        (unless_cut (kids_side_cut K w kids next) (remainder K kids)) 0
    kids_laid = in-kids.staying (kids_side_cut K w kids next) false

    pair_begins : (uncut : ℕ) (run : Bool) → MarksLaid K run this (lay_pair K this true uncut) 0 0
    unfolding lay_pair pick
    pair_begins uncut run =
        laid_begins K w l kids_laid run (in-next.going_on (next_side_cut K w kids next))
        (omega (arith, remainder_node K w kids next l))

    pair_stays : (cut run : Bool) → MarksLaid K run this (lay_pair K this cut stays) (unless_cut cut (remainder K this)) 0
    unfolding lay_pair pick
    pair_stays true run = pair_begins stays run
    pair_stays false run =
        rw (remainder_node K w kids next l)
        (laid_stays K w l kids_laid run (in-next.staying (next_side_cut K w kids next) false))

    pair_continues : (cut : Bool) → MarksLaid K true this (lay_pair K this cut continues) 0
        (unless_cut cut (remainder K this))
    unfolding lay_pair pick
    pair_continues true = pair_begins continues true
    pair_continues false =
        rw (remainder_node K w kids next l)
        (laid_continues K w l kids_laid (in-next.going_on (next_side_cut K w kids next)))

end_none : (K : ℕ) (cut : Bool) → unless_cut cut (remainder K end) ≡ 0
unfolding pick remainder
end_none K true = refl
end_none K false = refl

pair_laid : (K : ℕ) (c : Chain) → EachWithin K c → PairLaid K c
unfolding EachWithin lay_pair
pair_laid K end h =
    record {
      staying = λ cut run. rw (end_none K cut) (laid_end K run);
      going_on = λ cut. rw (end_none K cut) (laid_end K true);
    }
pair_laid K (node w l kids next) h =
    let a = pair_laid K kids h.1 in
    let b = pair_laid K next h.2 in
    let fits = remainder_fits K (node w l kids next) h in
    record { staying = pair_stays K w l kids next a b fits; going_on = pair_continues K w l kids next a b fits }

-- ---- Pages

-- the root has no sibling: its page holds it and what its children keep
remainder_root : (K w l : ℕ) (kids : Chain)
    → remainder K (node w l kids end) ≡ w + unless_cut (kids_side_cut K w kids end) (remainder K kids)
remainder_root K w l kids = omega (arith, remainder_node K w kids end l, end_none K (next_side_cut K w kids end))

-- the plan of a tree
pub pair_feasible : (K w l : ℕ) (kids : Chain) → EachWithin K (node w l kids end)
    → FeasibleShape K (node w l kids end) (pair_marks K (node w l kids end)) (remainder K (node w l kids end))
unfolding EachWithin pair_marks lay_pair pick
pair_feasible K w l kids h =
    let in-kids = (pair_laid K kids h.1).staying (kids_side_cut K w kids end) false in
    let fits = remainder_fits K (node w l kids end) h in
    let root = remainder_root K w l kids in
    rw root (feasible_tree K w l in-kids (omega arith))
