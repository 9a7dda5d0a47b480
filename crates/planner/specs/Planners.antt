-- The steps of each planner, and what a planner is lent where nothing is refused.
-- Defines steps_of, PlanReady. Proves steps_judged. Assumes nothing.
use Rattle.std.specs.Prelude.{ℕ, ◌≤◌, ◌≡◌, List, length}
use Rattle.model.specs.Table.{node_count, limit_of, Chain, tree_of}
use Rattle.model.specs.Steps.{best_marks, level_marks, single_marks, pair_marks, rightmost_marks, depth_first_marks}
use Rattle.model.specs.Refusals.{scratch_words}
use Rattle.theory.specs.TableFacts.{AcceptedFacts}
use Rattle.theory.specs.PlanFeasible.{Judged}
use Rattle.theory.specs.DepthFirst.{depth_first_judged}
use Rattle.theory.specs.BestLowest.{best_judged, level_judged, single_judged, pair_judged, rightmost_judged}
use Rattle.planner.specs.declared.Planner.{Planner}
use Rattle.planner.specs.declared.Planner.TheVariants.{Best, Level, Single, Pair, Rightmost, DepthFirst}

-- the steps of each planner
abbrev pub steps_of : Planner → ℕ → Chain → List ℕ
steps_of Best = best_marks
steps_of Level = level_marks
steps_of Single = single_marks
steps_of Pair = pair_marks
steps_of Rightmost = rightmost_marks
steps_of DepthFirst = depth_first_marks

-- the plan that they make of an accepted tree is feasible
pub steps_judged : (p : Planner) {t : List ℕ} → AcceptedFacts t → Judged t (steps_of p (limit_of t) (tree_of t))
steps_judged Best a = best_judged a
steps_judged Level a = level_judged a
steps_judged Single a = single_judged a
steps_judged Pair a = pair_judged a
steps_judged Rightmost a = rightmost_judged a
steps_judged DepthFirst a = depth_first_judged a

-- what PlanLent says but for the tree: the marks are one a node, and the scratch is long enough
pub record PlanReady (t a s : List ℕ) : Type 0 where
  pub marks_long : length a ≡ node_count t
  pub words : scratch_words (node_count t) (limit_of t) ≤ length s
