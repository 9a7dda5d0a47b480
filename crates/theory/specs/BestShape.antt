-- Best and level on a tree by shape: their plans are feasible and their figures are those of the entries
-- (best_feasible, level_feasible), and no feasible plan has fewer pages than best, nor as many and a lighter root
-- page (best_least). Defines NoBetterThanBest, RootParts; proves root_parts besides. Assumes nothing.
use Rattle.std.specs.Prelude.{ℕ, zero, suc, ◌+◌, ◌≤◌, ◌≡◌, length, get_or}
use Rattle.std.proofs.Math.Bool.{true, false, and-eq-true_iff}
use mathlib.Core.List.{List, [], ◌∷◌}
use Rattle.std.proofs.Common.{arith}
use Rattle.std.proofs.Math.ListN.{length-append}
use Rattle.model.specs.Table.{Chain, end, node}
use Rattle.model.specs.Steps.{entry_at, children_of, best_marks, level_marks}
use Rattle.theory.specs.PlanShape.{allowed, allowed_mark, joined, weighed, AllWithin, EachWithin}
use Rattle.theory.specs.BestNodes.{node_least, children_fair}
use Rattle.theory.specs.BestLaid.{pages_below, pages_of, Figured, laid_feasible}
use Rattle.theory.specs.PlanWeighs.{all_within_left}
use Rattle.theory.specs.BestRealPlans.{match_children}

module _ (K w l : ℕ) (kids : Chain) (each : EachWithin K (node w l kids end)) where
  -- best's plan is feasible; its page count and the weight of its root page are the entries'
  pub best_feasible : Figured K (node w l kids end) (best_marks K (node w l kids end))
      (pages_of true K (node w l kids end)) (entry_at K (children_of true K kids) w).rest
  unfolding best_marks
  best_feasible = laid_feasible true K w l kids each

  -- and so is level's
  pub level_feasible : Figured K (node w l kids end) (level_marks K (node w l kids end))
      (pages_of false K (node w l kids end)) (entry_at K (children_of false K kids) w).rest
  unfolding level_marks
  level_feasible = laid_feasible false K w l kids each

-- a plan has no fewer pages than best, nor as many and a lighter root page
pub record NoBetterThanBest (K : ℕ) (c : Chain) (ms : List ℕ) : Type 0 where
  pub count : length (weighed c (best_marks K c)).pages ≤ length (weighed c ms).pages
  pub root : length (weighed c (best_marks K c)).pages ≡ length (weighed c ms).pages
      → get_or (weighed c (best_marks K c)).pages 0 0 ≤ get_or (weighed c ms).pages 0 0

-- what the marks of a tree say of the root's children
pub record RootParts (K w l : ℕ) (kids : Chain) (ms : List ℕ) : Type 0 where
  pub fine : allowed false kids ms ≡ true
  pub within : AllWithin K (weighed kids ms).pages
  pub root_within : w + (weighed kids ms).stay ≤ K
  pub count : length (weighed (node w l kids end) (1 ∷ ms)).pages ≡ suc (length (weighed kids ms).pages)
  pub root_is : get_or (weighed (node w l kids end) (1 ∷ ms)).pages 0 0 ≡ w + (weighed kids ms).stay

module _ (K w l : ℕ) (kids : Chain) where
  pub root_parts : (ms : List ℕ) → allowed false (node w l kids end) (1 ∷ ms) ≡ true
      → AllWithin K (weighed (node w l kids end) (1 ∷ ms)).pages → RootParts K w l kids ms
  unfolding allowed allowed_mark weighed joined AllWithin
  root_parts ms a h =
      record {
        fine = ((and-eq-true_iff _ _).0 a).0;
        within = all_within_left K (weighed kids ms).pages [] h.1;
        root_within = omega arith;
        count = simp length-append (omega arith);
        root_is = omega arith;
      }

  root_least : (ms : List ℕ) → EachWithin K (node w l kids end) → RootParts K w l kids ms
      → NoBetterThanBest K (node w l kids end) (1 ∷ ms)
  unfolding EachWithin pages_below children_of
  root_least ms e r =
      let b = best_feasible K w l kids e in
      let m = match_children kids ms e.1 r.fine r.within (omega (arith, r.root_within)) in
      let f = children_fair true K kids [] e.1 tt in
      let c = node_least K w (children_of true K kids) f e.0 m.level (omega (arith, m.light, r.root_within)) in
      let root = b.feasible.root_page in
      record {
        count = omega (arith, b.count, c.count, m.few, r.count);
        root = λ q. omega (arith, r.root_is, m.light, c.rest (omega (arith, b.count, m.few, r.count)));
      }

  -- no feasible plan is better than best's
  pub best_least : (ms : List ℕ) → EachWithin K (node w l kids end)
      → allowed false (node w l kids end) ms ≡ true → get_or ms 0 0 ≡ 1
      → AllWithin K (weighed (node w l kids end) ms).pages
      → NoBetterThanBest K (node w l kids end) ms
  best_least [] e a m h = absurd (omega arith)
  best_least (zero ∷ ms) e a m h = absurd (omega arith)
  best_least (suc zero ∷ ms) e a m h = root_least ms e (root_parts ms a h)
  best_least (suc (suc k) ∷ ms) e a m h = absurd (omega arith)
