use Rattle.std.proofs.Common.{refl, ◌∙◌, ap}
use Rattle.pages.specs.Listing.{layout_lines, layout_lines_lem, lines_refused, lines_planned}
use Rattle.theory.specs.Refused.{refusal_number}
use Rattle.pages.proofs.report.report_plan.Goals as goal

-- the layout is that of the plan that was accepted
pub returns-in-Ok : goal.returns-in-Ok
returns-in-Ok c =
    let made = c.in-Ok.ensures in
    c.list_pages.ensures
    ∙ ap (layout_lines c.make_laid.new.layout) c.limit_of.ensures
    ∙ layout_lines_lem made.feasible_layout
    ∙ lines_planned c.args.table.now _ _ _ made.scratch_after refl

pub returns-in-Err : goal.returns-in-Err
returns-in-Err c =
    let refused = rw c.requires.empty at c.put_refusal.ensures.written in
    refused ∙ lines_refused c.args.table.now _ _ _ c.in-Err.ensures.scratch_after (refusal_number c.in-Err.refusal)
