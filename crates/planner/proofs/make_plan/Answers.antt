use Rattle.std.proofs.Common.{arith}
use Rattle.planner.proofs.Planning.{planning, plan_promised, quick_promised}
use Rattle.planner.proofs.make_plan.Goals as goal

pub returns-in_err-tree-clause-scratch_after : goal.returns-in_err-tree-clause-scratch_after
returns-in_err-tree-clause-scratch_after c = grind (arith, planning)

pub returns-in_err-tree-clause-plan_promise : goal.returns-in_err-tree-clause-plan_promise
returns-in_err-tree-clause-plan_promise c =
    plan_promised _ _ _ _ _ _ c.args.planner (returns-in_err-tree-clause-scratch_after c)

pub returns-clause-scratch_after : goal.returns-clause-scratch_after
returns-clause-scratch_after c = grind (arith, planning)

pub returns-clause-plan_promise : goal.returns-clause-plan_promise
returns-clause-plan_promise c = plan_promised _ _ _ _ _ _ c.args.planner (returns-clause-scratch_after c)

pub returns-clause-quick_promise : goal.returns-clause-quick_promise
returns-clause-quick_promise c = quick_promised _ _ _ _ _ _ c.args.planner (returns-clause-scratch_after c)
