-- Marks laid node by node, without counting the pages; and what makes a plan of a tree feasible.
-- Defines MarksLaid and FeasibleShape. Proves laid_end, laid_stays, laid_begins, laid_continues (a node by its mark)
-- and feasible_tree. Assumes nothing.
use Rattle.std.specs.Prelude.{ℕ, ◌+◌, ◌≤◌, ◌≡◌, refl, Bool, true, false, List, [], ◌∷◌, ◌++◌, length, get_or}
use Rattle.std.proofs.Common.{arith}
use Rattle.model.specs.Table.{Chain, end, node}
use Rattle.theory.specs.PlanShape.{size, allowed, joined, weighed, AllWithin}
use Rattle.theory.specs.PlanWeighs.{Weighs, weighs_end, weighs_stays, weighs_begins, weighs_continues}
use Rattle.theory.specs.PlanWeighs.{node_weighed}

-- what the marks of a chain come to, however many pages begin in it
pub record MarksLaid (K : ℕ) (run : Bool) (c : Chain) (marks : List ℕ) (stay carry : ℕ) : Type 0 where
  pub count : ℕ
  pub weighs : Weighs K run c marks stay carry count

pub laid_end : (K : ℕ) (run : Bool) → MarksLaid K run end [] 0 0
laid_end K run = record { count = 0; weighs = weighs_end K run }

-- a node, from its children and the siblings after it, for each mark
module _ (K w l : ℕ) {kids next : Chain} {a b : List ℕ} {sa ca sb cb : ℕ}
    (in-kids : MarksLaid K false kids a sa ca) where
  pub laid_stays : (run : Bool) → MarksLaid K false next b sb cb
      → MarksLaid K run (node w l kids next) (0 ∷ (a ++ b)) (w + sa + sb) 0
  laid_stays run in-next =
      record { count = _; weighs = weighs_stays w l kids next a b run in-kids.weighs in-next.weighs }

  pub laid_begins : (run : Bool) → MarksLaid K true next b sb cb → w + sa + cb ≤ K
      → MarksLaid K run (node w l kids next) (1 ∷ (a ++ b)) sb 0
  laid_begins run in-next fits =
      record { count = _; weighs = weighs_begins w l kids next a b run in-kids.weighs in-next.weighs fits }

  -- the page that the node begins comes first
  laid_begins_page : MarksLaid K true next b sb cb
      → (weighed (node w l kids next) (1 ∷ (a ++ b))).pages
      ≡ (w + sa + cb) ∷ ((weighed kids a).pages ++ (weighed next b).pages)
  unfolding joined
  laid_begins_page in-next =
      rw (node_weighed w l kids next a b 1 in-kids.weighs.sized)
      (rw (in-kids.weighs.stays_is, in-next.weighs.carry_is))

  pub laid_continues : MarksLaid K true next b sb cb
      → MarksLaid K true (node w l kids next) (2 ∷ (a ++ b)) sb (w + sa + cb)
  laid_continues in-next =
      record { count = _; weighs = weighs_continues w l kids next a b in-kids.weighs in-next.weighs }

-- marks that make a feasible plan of a tree, with the weight of the root's page
pub record FeasibleShape (K : ℕ) (tree : Chain) (marks : List ℕ) (root : ℕ) : Type 0 where
  pub long : length marks ≡ size tree
  pub first : get_or marks 0 0 ≡ 1
  pub allows : allowed false tree marks ≡ true
  pub within : AllWithin K (weighed tree marks).pages
  pub root_page : get_or (weighed tree marks).pages 0 0 ≡ root

pub feasible_tree : (K w l : ℕ) {kids : Chain} {a : List ℕ} {stay carry : ℕ} → MarksLaid K false kids a stay carry
    → w + stay ≤ K
    → FeasibleShape K (node w l kids end) (1 ∷ (a ++ [])) (w + stay)
feasible_tree K w l {kids} {a} {stay} in-kids fits =
    let none = laid_end K true in
    let all = (laid_begins K w l in-kids false none (omega arith)).weighs in
    record {
      long = all.sized;
      first = refl;
      allows = all.fine;
      within = all.within;
      root_page = rw (laid_begins_page K w l in-kids none) (omega arith);
    }
