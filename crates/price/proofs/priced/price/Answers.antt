use Rattle.std.proofs.Common.{◌≡◌, arith, rules}
use Rattle.model.specs.Refusals.{answer_of, plain_rules, judge_by}
use Rattle.model.specs.declared.Verdict.TheVariants.{Feasible}
use Rattle.layout.specs.Rows.{FeasibleLayout}
use Rattle.price.proofs.LayoutTotal.{layout_total}
use Rattle.price.proofs.PricedPlans.{price_refused, price_done, price_promised}
use Rattle.price.proofs.priced.price.Goals as goal

pub returns-in_err-verdict-clause-cents_value : goal.returns-in_err-verdict-clause-cents_value
returns-in_err-verdict-clause-cents_value c = grind (arith, price_refused)

pub returns-in_err-verdict-clause-price_promise : goal.returns-in_err-verdict-clause-price_promise
returns-in_err-verdict-clause-price_promise c =
    price_promised _ _ (returns-in_err-verdict-clause-cents_value c)

pub returns-in_err-plan-clause-cents_value : goal.returns-in_err-plan-clause-cents_value
returns-in_err-plan-clause-cents_value c = grind (arith, price_refused)

pub returns-in_err-plan-clause-price_promise : goal.returns-in_err-plan-clause-price_promise
returns-in_err-plan-clause-price_promise c = price_promised _ _ (returns-in_err-plan-clause-cents_value c)

pub returns-clause-cents_value : goal.returns-clause-cents_value
returns-clause-cents_value c =
    let plan = c.price_of.result.plan in
    let t = c.args.table.now in
    let m = c.args.marks.now in
    let told : answer_of (Feasible plan.pages plan.root) ≡ judge_by plain_rules t m = search rules in
    let laid : FeasibleLayout t m c.judge_pages.new.layout = search rules in
    let total = layout_total t m _ _ _ laid c.limit_of.ensures c.price_of.ensures.cents_value in
    price_done t m plan.pages plan.root c.price_of.result.cents told total

pub returns-clause-price_promise : goal.returns-clause-price_promise
returns-clause-price_promise c = price_promised _ _ (returns-clause-cents_value c)
