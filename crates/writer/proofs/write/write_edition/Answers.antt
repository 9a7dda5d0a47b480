use Rattle.std.proofs.Common.{rules, sym, ap, ◌∙◌, arith}
use Rattle.model.specs.Archive.{archive_bytes}
use Rattle.model.specs.Refusals.{Answer}
use Rattle.writer.proofs.Writing.{judge_refuses, many_refused, length_refused, written}
use Rattle.writer.proofs.write.write_edition.Goals as goal

pub returns-in_err-verdict : goal.returns-in_err-verdict
returns-in_err-verdict c = search (rules, judge_refuses)

pub returns-in_err-size : goal.returns-in_err-size
returns-in_err-size c = search (rules, judge_refuses, c.in_err-size.ensures ∙ c.in_ok-verdict.ensures.answer_value)

pub returns-then-format-nodes : goal.returns-then-format-nodes
returns-then-format-nodes c =
    let a = c.args in
    many_refused _ _ a.table.now a.marks.now _ _ _ (c.in_ok-size.ensures ∙ c.in_ok-verdict.ensures.answer_value)
    (search rules) (search rules)

pub returns-then-out-bytes : goal.returns-then-out-bytes
returns-then-out-bytes c =
    let a = c.args in
    let layout =
    c.in_ok-verdict.ensures.laid_beside.feasible (sym (ap (λ (x : Answer). x.number) c.in_ok-size.ensures)) in
    length_refused _ _ a.table.now a.marks.now _ _ _ (c.in_ok-size.ensures ∙ c.in_ok-verdict.ensures.answer_value)
    c.node_count-nodes.ensures (search rules)
    (c.archive_bytes-bytes.ensures ∙ ap (λ p. archive_bytes a.format.edition p c.node_count-nodes.result) layout.pages_are)
    (search rules)

pub returns : goal.returns
returns c =
    let a = c.args in
    let layout =
    c.in_ok-verdict.ensures.laid_beside.feasible (sym (ap (λ (x : Answer). x.number) c.in_ok-size.ensures)) in
    written _ _ a.table.now a.marks.now _ _ _ (c.in_ok-size.ensures ∙ c.in_ok-verdict.ensures.answer_value)
    (omega arith)
    (rw (← layout.pages_are, ← c.node_count-nodes.ensures, ← c.archive_bytes-bytes.ensures) (search rules))
    c.fill_archive.ensures
