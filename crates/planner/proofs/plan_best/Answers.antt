use Rattle.std.proofs.Common.{rules}
use Rattle.planner.proofs.Planning.{best_promised}
use Rattle.planner.proofs.plan_best.Goals as goal

pub returns-clause-best_promise : goal.returns-clause-best_promise
returns-clause-best_promise c = best_promised _ _ _ _ c.make_plan.new.scratch _ (search rules)
