use Rattle.std.proofs.Common.{rules, sym, ap, ◌∙◌}
use Rattle.model.specs.Refusals.{Answer}
use Rattle.sheets.proofs.Printing.{judge_refuses, length_refused, printed, print_promised}
use Rattle.sheets.proofs.print.print_sheets.Goals as goal

pub returns-in_err-judge_pages-clause-out_after : goal.returns-in_err-judge_pages-clause-out_after
returns-in_err-judge_pages-clause-out_after c = search (rules, judge_refuses)

pub returns-in_err-judge_pages-clause-print_promise : goal.returns-in_err-judge_pages-clause-print_promise
returns-in_err-judge_pages-clause-print_promise c =
    print_promised _ _ _ (returns-in_err-judge_pages-clause-out_after c)

pub returns-in_err-size-clause-out_after : goal.returns-in_err-size-clause-out_after
returns-in_err-size-clause-out_after c =
    search (rules, judge_refuses, c.in_err-size.ensures ∙ c.in_ok-judge_pages.ensures.answer_value)

pub returns-in_err-size-clause-print_promise : goal.returns-in_err-size-clause-print_promise
returns-in_err-size-clause-print_promise c = print_promised _ _ _ (returns-in_err-size-clause-out_after c)

pub returns-then-out-bytes : goal.returns-then-out-bytes
returns-then-out-bytes c =
    let j = c.in_ok-judge_pages.ensures in
    let layout = j.laid_beside.feasible (sym (ap (λ (x : Answer). x.number) c.in_ok-size.ensures)) in
    let e =
    length_refused _ _ c.args.out.now _ _ (c.in_ok-size.ensures ∙ j.answer_value) _ layout _
    c.sheet_bytes-bytes.ensures (search rules) in
    record { out_after = e; print_promise = print_promised _ _ _ e }

pub returns : goal.returns
returns c =
    let j = c.in_ok-judge_pages.ensures in
    let layout = j.laid_beside.feasible (sym (ap (λ (x : Answer). x.number) c.in_ok-size.ensures)) in
    let e =
    printed _ _ c.args.out.now _ _ (c.in_ok-size.ensures ∙ j.answer_value) _ layout _
    c.sheet_bytes-bytes.ensures (search rules) c.fill_sheets.ensures in
    record { out_after = e; print_promise = print_promised _ _ _ e }
