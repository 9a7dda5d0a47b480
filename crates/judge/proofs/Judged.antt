-- The verdict of a tree and a plan that were given is the judge's answer. Assumes nothing.
use Rattle.std.specs.Prelude.{ℕ, Bool, ◌≡◌, refl, List}
use Rattle.std.proofs.Common.{◌∙◌, ap}
use Rattle.model.specs.Plan.{verdict_of}
use Rattle.model.specs.Refusals.{accepted, answer_of, judge_by}
use Rattle.model.specs.declared.Verdict.{Verdict}
use Rattle.theory.specs.JudgeAnswers.{judge_verdict}
use Rattle.judge.specs.Judging.{BeforePlan}

pub judged : {filed : Bool} {t m s : List ℕ} {v : Verdict} → BeforePlan filed t m accepted → s ≡ t → v ≡ verdict_of s m
    → answer_of v ≡ judge_by (record { filed = filed }) t m
judged {filed} {t} {m} given same is =
    ap answer_of (is ∙ ap (λ (x : List ℕ). verdict_of x m) same)
    ∙ judge_verdict (record { filed = filed }) t m (given.tree refl) (given.long refl)
