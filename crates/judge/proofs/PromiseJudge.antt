-- What the judge promises beside its equation (judge_promise): plans and sequences of sibling runs are the same, order
-- apart, and the verdict's figures are those of the plan's runs. Assumes nothing.
use Rattle.std.specs.Prelude.{ℕ, List}
use Rattle.model.specs.Refusals.{judge_plan}
use Rattle.model.specs.Demand.{JudgePromise}
use Rattle.theory.specs.PlanFeasible.{feasible_judge}
use Rattle.theory.specs.PromiseWeight.{judge_weight}
use Rattle.judge.specs.PromiseJudge.{held, heavy, plan_of}

pub judge_promise : (t m : List ℕ) → JudgePromise t m (judge_plan t m)
judge_promise t m =
    record {
      accepts = feasible_judge t m;
      held = held t m;
      heavy = heavy t m;
      plans = plan_of t;
      weight = judge_weight t m;
    }
