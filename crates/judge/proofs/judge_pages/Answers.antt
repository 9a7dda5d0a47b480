use Rattle.judge.specs.Judging.{beside_laid}
use Rattle.judge.proofs.Judged.{judged}
use Rattle.judge.proofs.judge_pages.Goals as goal

pub returns-clause-answer_value : goal.returns-clause-answer_value
returns-clause-answer_value c =
    judged c.in_ok-tree.ensures.told c.in_ok-tree.ensures.same c.judge_made.ensures.value

pub returns-clause-laid_beside : goal.returns-clause-laid_beside
returns-clause-laid_beside c =
    beside_laid (judged c.in_ok-tree.ensures.told c.in_ok-tree.ensures.same c.judge_made.ensures.value)
    (rw c.in_ok-tree.ensures.same at c.judge_made.ensures.layout)
