-- Demand 3: the best plan is the lowest there is.
-- Proves best_judged, level_judged, single_judged, pair_judged, rightmost_judged (the plan of each of these planners is
-- feasible for an accepted tree), page_count_is, root_weight_is, best_least_plan and best_lowest. Assumes nothing.
use Rattle.std.specs.Prelude.{ℕ, ◌≤◌, ◌≡◌, List, length, get_or}
use Rattle.std.proofs.Common.{◌∙◌, arith}
use Rattle.std.proofs.Math.Bool.{true, false}
use Rattle.model.specs.Table.{Chain, end, node, limit_of, tree_of, weight_at, label_at}
use Rattle.model.specs.Plan.{mark_at, page_count, page_weight}
use Rattle.model.specs.Runs.{runs_of}
use Rattle.model.specs.Steps.{best_marks, level_marks, single_marks, pair_marks, rightmost_marks}
use Rattle.model.specs.Demand.{Lowest}
use Rattle.theory.specs.TableFacts.{AcceptedFacts}
use Rattle.theory.specs.TableNumbered.{Rooted, sound_root, tree_within}
use Rattle.theory.specs.PlanShape.{allowed, weighed, AllWithin, EachWithin}
use Rattle.theory.specs.PlanLaid.{FeasibleShape}
use Rattle.theory.specs.PlanFeasible.{Judged, ShapePlan, judged_bridge, shape_judged}
use Rattle.theory.specs.PlanBridge.{count_bridge, weight_bridge}
use Rattle.theory.specs.SingleShape.{single_feasible}
use Rattle.theory.specs.PairShape.{pair_feasible}
use Rattle.theory.specs.RightmostShape.{rightmost_feasible}
use Rattle.theory.specs.BestShape.{NoBetterThanBest, best_feasible, level_feasible, best_least}
use Rattle.theory.specs.RunsHeld.{PlanRuns, plan_runs, RunsPlan, runs_plan}

module _ {t : List ℕ} (a : AcceptedFacts t) where
  abbrev K : ℕ
  K = limit_of t

  -- what is shown of a root with its children holds of the tree of the table
  by_shape : (P : Chain → Type 0)
      → ((w l : ℕ) (kids : Chain) → EachWithin K (node w l kids end) → P (node w l kids end))
      → P (tree_of t)
  by_shape P f =
      let r : Rooted t = sound_root a.sound in
      rw r.shape
      (f (weight_at t 1) (label_at t 1) r.kids (rw r.shape at (tree_within a)))

  -- a planner whose marks are feasible by shape
  abbrev Plans : (ℕ → Chain → List ℕ) → Chain → Type 0
  Plans steps c = (root : ℕ) × FeasibleShape K c (steps K c) root

  plan_judged : (steps : ℕ → Chain → List ℕ)
      → ((w l : ℕ) (kids : Chain) → EachWithin K (node w l kids end) → Plans steps (node w l kids end))
      → Judged t (steps K (tree_of t))
  plan_judged steps f =
      let p = by_shape (Plans steps) f in
      shape_judged a _ p.0 p.1

  pub best_judged : Judged t (best_marks K (tree_of t))
  best_judged = plan_judged best_marks (λ w l kids e. (_, (best_feasible K w l kids e).feasible))

  pub level_judged : Judged t (level_marks K (tree_of t))
  level_judged = plan_judged level_marks (λ w l kids e. (_, (level_feasible K w l kids e).feasible))

  pub single_judged : Judged t (single_marks K (tree_of t))
  single_judged = plan_judged single_marks (λ w l kids e. (_, single_feasible K w l kids e))

  pub pair_judged : Judged t (pair_marks K (tree_of t))
  pair_judged = plan_judged pair_marks (λ w l kids e. (_, pair_feasible K w l kids e))

  pub rightmost_judged : Judged t (rightmost_marks K (tree_of t))
  rightmost_judged = plan_judged rightmost_marks (λ w l kids e. (_, rightmost_feasible K w l kids e))

  -- the figures of a feasible plan are those of its pages by shape
  pub page_count_is : (m : List ℕ) → Judged t m → page_count t m ≡ length (weighed (tree_of t) m).pages
  page_count_is m j = count_bridge a.sound m j.long ((judged_bridge a m j.long).0 j).allows

  pub root_weight_is : (m : List ℕ) → Judged t m → page_weight t m 1 ≡ get_or (weighed (tree_of t) m).pages 0 0
  root_weight_is m j = weight_bridge a.sound m j.long ((judged_bridge a m j.long).0 j).allows 1 (omega arith)

  no_better : (m : List ℕ) → Judged t m → NoBetterThanBest K (tree_of t) m
  unfolding mark_at
  no_better m j =
      let s : ShapePlan t m = (judged_bridge a m j.long).0 j in
      by_shape (λ c. allowed false c m ≡ true → AllWithin K (weighed c m).pages → NoBetterThanBest K c m)
      (λ w l kids e q h. best_least K w l kids m e q s.first h) s.allows s.within

  abbrev best_plan : List ℕ
  best_plan = best_marks K (tree_of t)

  -- no feasible plan has fewer pages than best's, nor as many and a lighter root page
  pub best_least_plan : (m : List ℕ) → Judged t m
      → (page_count t best_plan ≤ page_count t m)
      × (page_count t m ≡ page_count t best_plan → page_weight t best_plan 1 ≤ page_weight t m 1)
  best_least_plan m j =
      let n = no_better m j in
      let c = page_count_is best_plan best_judged in
      let d = page_count_is m j in (
        omega (arith, n.count),
        λ e. omega (arith, root_weight_is best_plan best_judged, root_weight_is m j, n.root (omega arith)),
      )

  -- demand 3
  pub best_lowest : Lowest t (page_count t best_plan) (page_weight t best_plan 1) (runs_of t best_plan)
  best_lowest =
      let b = best_judged in
      let r : PlanRuns t best_plan = plan_runs a.sound best_plan b.marked in
      record {
        least =
            λ qs h w.
            let q : RunsPlan t qs = runs_plan a.sound qs h in
            let n = best_least_plan q.marks
            (record { tree = a; long = q.long; marked = q.good; light = q.limit.1 w }) in
            (omega (arith, n.0, q.count), λ e. omega (arith, n.1 (q.count ∙ e), q.root));
        held = r.held;
        within = r.limit.1 b.light;
        count = r.count;
        root = r.root;
      }
