use Rattle.std.proofs.Common.{◌≡◌, ℕ, List}
use Rattle.std.proofs.lemmas.Result.{err_from_is_err_and}
use Rattle.model.specs.Refusals.{Answer, plain_rules, judge_by, judge_plan}
use Rattle.model.specs.Demand.{JudgePromise}
use Rattle.theory.specs.Refused.{refusal_number}
use Rattle.judge.proofs.Judged.{judged}
use Rattle.judge.proofs.PromiseJudge.{judge_promise}
use Rattle.judge.proofs.judge_plan.Goals as goal

-- with the equation, the promise
promised : (t m : List ℕ) {r : Answer} → r ≡ judge_by plain_rules t m → JudgePromise t m r
unfolding judge_plan
promised t m e = rw e (judge_promise t m)

pub returns-in_err-tree-clause-value : goal.returns-in_err-tree-clause-value
unfolding judge_plan
returns-in_err-tree-clause-value c =
    let p = err_from_is_err_and c.from_residual.result c.from_residual.ensures.1 in
    rw (p.1, p.2) (c.in_err-tree.ensures.told.refuses (refusal_number _))

pub returns-in_err-tree-clause-judge_promise : goal.returns-in_err-tree-clause-judge_promise
returns-in_err-tree-clause-judge_promise c =
    let p = err_from_is_err_and c.from_residual.result c.from_residual.ensures.1 in
    rw (p.1, p.2) (promised _ _ (c.in_err-tree.ensures.told.refuses (refusal_number _)))

pub returns-clause-value : goal.returns-clause-value
unfolding judge_plan
returns-clause-value c = judged c.in_ok-tree.ensures.told c.in_ok-tree.ensures.same c.judge_answer.ensures

pub returns-clause-judge_promise : goal.returns-clause-judge_promise
returns-clause-judge_promise c =
    promised _ _ (judged c.in_ok-tree.ensures.told c.in_ok-tree.ensures.same c.judge_answer.ensures)
