use Rattle.std.proofs.Common.{◌≡◌, ℕ, refl, sym, ap, ◌∙◌, arith, Bool, List, length}
use Rattle.std.proofs.lemmas.Result.{err_from_is_err_and}
use Rattle.model.specs.Table.{node_count}
use Rattle.model.specs.Refusals.{Answer, refused, accepted, refusal_answer, tree_checks}
use Rattle.model.specs.declared.Refusal.{Refusal}
use Rattle.theory.specs.Checks.{first_of_all}
use Rattle.theory.specs.JudgeAnswers.{tree_answer, with_passes, judge_refuses, judge_eight}
use Rattle.judge.specs.Judging.{BeforePlan}
use Rattle.theory.specs.Refused.{refusal_number}
use Rattle.judge.proofs.check_given.Goals as goal

-- a tree that is refused does not pass
refused_tree : (filed : Bool) (t m : List ℕ) (r : Refusal) → refusal_answer r ≡ tree_answer filed t
    → BeforePlan filed t m (refusal_answer r)
unfolding tree_answer
refused_tree filed t m r is =
    let other : (tree_answer filed t).number ≡ 0 → ⊥ = λ z. refusal_number r (ap (λ (x : Answer). x.number) is ∙ z) in
    record {
      tree = λ z. absurd (refusal_number r z);
      long = λ z. absurd (refusal_number r z);
      refuses = λ h. is ∙ judge_refuses (record { filed = filed }) t m other;
      none = λ h pass long. other (ap (λ (x : Answer). x.number) (first_of_all (tree_checks filed t) accepted pass));
    }

pub returns-in_err-tree-clause-told : goal.returns-in_err-tree-clause-told
returns-in_err-tree-clause-told c =
    let p = err_from_is_err_and c.from_residual.result c.from_residual.ensures.1 in
    rw (p.1, p.2) (refused_tree _ _ _ _ c.in_err-tree.ensures.told)

pub returns-then-marks-nodes-clause-told : goal.returns-then-marks-nodes-clause-told
returns-then-marks-nodes-clause-told c =
    let t = c.args.table.now in
    let m = c.args.marks.now in
    let filed = c.args.filed in
    let nodes = c.node_count-nodes.ensures in
    let pass = with_passes filed t (ap (λ (x : Answer). x.number) (sym c.in_ok-tree.ensures.told)) in
    let wrong : length m ≡ node_count t → ⊥ = λ z. omega (arith, c.if-marks-nodes.true, nodes) in
    record {
      tree = λ z. absurd (omega arith);
      long = λ z. absurd (omega arith);
      refuses = λ h. ap (refused 8) nodes ∙ judge_eight (record { filed = filed }) t m pass wrong;
      none = λ h pass long. wrong long;
    }

pub returns-clause-told : goal.returns-clause-told
returns-clause-told c =
    record {
      tree = λ z. with_passes c.args.filed c.args.table.now (ap (λ (x : Answer). x.number) (sym c.in_ok-tree.ensures.told));
      long = λ z. omega (arith, c.if-marks-nodes.false, c.node_count-nodes.ensures);
      refuses = λ h. absurd (h refl);
      none = λ h pass long. h refl;
    }
