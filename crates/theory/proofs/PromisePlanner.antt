-- What a quick planner promises beside its equation: best's plan is not above its own (quick_promise). Assumes nothing.
use Rattle.std.specs.Prelude.{ℕ, List}
use Rattle.std.proofs.Common.{arith, ◌∙◌}
use Rattle.model.specs.Table.{Chain, limit_of, tree_of}
use Rattle.model.specs.Refusals.{planned}
use Rattle.model.specs.Demand.{QuickPromise}
use Rattle.theory.specs.TableFacts.{AcceptedFacts}
use Rattle.theory.specs.PlanFeasible.{Judged}
use Rattle.theory.specs.PromisePlanner.{plan_figures, best_not_above}

pub quick_promise : (steps : ℕ → Chain → List ℕ) (t m s : List ℕ)
    → (AcceptedFacts t → Judged t (steps (limit_of t) (tree_of t))) → QuickPromise t (planned steps t m s).answer
quick_promise steps t m s good =
    record {
      not_below = λ m' s' P W bestP bestW e b.
          let own = plan_figures steps t m s good P W e in
          let least = best_not_above t (steps (limit_of t) (tree_of t)) m' s' bestP bestW own.2 b in
          (omega (arith, own.0, least.0), λ q. omega (arith, own.1, least.1 (q ∙ own.0)));
    }
