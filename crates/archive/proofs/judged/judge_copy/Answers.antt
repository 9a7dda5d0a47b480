use Rattle.std.proofs.Common.{refl, ◌∙◌, arith, rules, length-take-le}
use Rattle.std.proofs.Math.Seq.{take-length}
use Rattle.model.specs.Refusals.{refusal_answer}
use Rattle.theory.specs.Refused.{refusal_number}
use Rattle.archive.specs.Answers.{copy_refused, copy_long, copy_stopped, copy_differs, copy_same}
use Rattle.archive.proofs.SameBytes.{same_bytes}
use Rattle.archive.proofs.judged.judge_copy.Goals as goal

pub returns-then-copy-archive : goal.returns-then-copy-archive
returns-then-copy-archive c =
    copy_refused refl (copy_long c.args.film.format.in_room _ _ _ c.requires.0 (omega arith))

pub returns-in_default : goal.returns-in_default
returns-in_default c =
    let a = c.args in
    let why = c.in_default.field-0 in
    copy_refused refl
    (copy_stopped a.film.format.in_room a.film.archive.now a.tree.now a.plan.now _ c.write_edition.new.out (refusal_answer why)
    (search rules) (refusal_number why) c.requires.0 (length-take-le _ a.copy.now (omega arith)))

pub returns-then-eq : goal.returns-then-eq
returns-then-eq c =
    let a = c.args in
    copy_same a.film.format.in_room a.film.archive.now a.tree.now a.plan.now _ c.write_edition.new.out _ c.in-Ok.ensures refl
    (λ i. omega (arith, c.type_inv.tree i))
    (same_bytes _ _ ∙ search (rules, take-length))

pub returns-else-eq : goal.returns-else-eq
returns-else-eq c =
    let a = c.args in
    copy_refused refl
    (copy_differs a.film.format.in_room a.film.archive.now a.tree.now a.plan.now _ c.write_edition.new.out _ c.in-Ok.ensures refl
    (same_bytes _ _ ∙ search (rules, take-length)))
