use Rattle.std.proofs.Common.{◌≡◌, rules, arith, w32, pos, ◌-ℤ◌, to_z, of_z}
use Rattle.std.proofs.lemmas.Int.{ints}
use Rattle.std.specs.declared.result.Result.TheVariants.{Err}
use Rattle.model.specs.declared.Verdict.TheVariants.{Feasible}
use Rattle.model.specs.Refusals.{answer_of, refusal_answer, plan_left, plan_single, plan_best}
use Rattle.price.proofs.SavedPlans.{single_refuses, best_takes, saving_is, saving_promised}
use Rattle.price.proofs.saved.saving.Goals as goal

pub returns-in_err-single : goal.returns-in_err-single
returns-in_err-single c =
    let a = c.args in
    let refusal = c.in_err-single.field-0.0 in
    let left = c.plan_priced.new in
    let told : c.from_residual.result ≡ Err refusal = search rules in
    let single : plan_left (refusal_answer refusal) left.marks left.scratch
    ≡ plan_single a.table.now a.marks.now a.scratch.now = search rules in
    let is = single_refuses a.table.now a.marks.now a.scratch.now _ _ refusal single in
    rw told (record { saving_after = is; saving_promise = saving_promised _ _ _ _ _ _ _ is })

pub returns-in_err-best : goal.returns-in_err-best
returns-in_err-best c =
    let a = c.args in
    let single : plan_left (answer_of (Feasible c.in_ok-single.single.plan.pages c.in_ok-single.single.plan.root))
    c.plan_priced.new.marks c.plan_priced.new.scratch
    ≡ plan_single a.table.now a.marks.now a.scratch.now = search rules in
    let best : plan_left (refusal_answer c.in_err-best.field-0.0) c.plan_priced-2.new.marks c.plan_priced-2.new.scratch
    ≡ plan_best a.table.now c.plan_priced.new.marks c.plan_priced.new.scratch = search rules in
    absurd (best_takes a.table.now a.marks.now a.scratch.now _ _ _ single _ _ _ best)

pub returns : goal.returns
returns c =
    let a = c.args in
    let one = c.in_ok-single.single in
    let two = c.in_ok-best.best in
    let single : plan_left (answer_of (Feasible one.plan.pages one.plan.root)) c.plan_priced.new.marks
    c.plan_priced.new.scratch ≡ plan_single a.table.now a.marks.now a.scratch.now = search rules in
    let best : plan_left (answer_of (Feasible two.plan.pages two.plan.root)) c.plan_priced-2.new.marks
    c.plan_priced-2.new.scratch
    ≡ plan_best a.table.now c.plan_priced.new.marks c.plan_priced.new.scratch = search rules in
    let less : to_z w32 (of_z w32 (to_z w32 one.cents -ℤ to_z w32 two.cents)) ≡ pos one.cents -ℤ pos two.cents =
    omega (arith, ints, c.in_ok-single.ensures.fits, c.in_ok-best.ensures.fits) in
    let is =
    saving_is a.table.now a.marks.now a.scratch.now _ _ _ single _ _ _ best one.cents two.cents _
    c.in_ok-single.ensures.cents_value c.in_ok-best.ensures.cents_value less in
    record { saving_after = is; saving_promise = saving_promised _ _ _ _ _ _ _ is }
