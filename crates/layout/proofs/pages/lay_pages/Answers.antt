use Rattle.std.proofs.Common.{◌≡◌, ◌+◌, ◌-◌, ◌∙◌, arith}
use Rattle.layout.proofs.Turns.{layout_start, u_fits, next_fits, count_fits, parent_fits, page_fits, weight_fits}
use Rattle.layout.proofs.Turns.{layout_turn, layout_end}
use Rattle.layout.proofs.pages.lay_pages.Goals as goal

pub loop-v-init : goal.loop-v-init
loop-v-init c = layout_start _ _ _ c.requires

pub parent_after-parent-requires-clause-slot : goal.parent_after-parent-requires-clause-slot
parent_after-parent-requires-clause-slot c = u_fits c.args.tree.accepted c.loop-v.invariant (omega arith) (omega arith)

pub overflow_add-layout : goal.overflow_add-layout
overflow_add-layout c =
    omega (
      arith,
      count_fits {w = c.loop-v.v} c.args.tree.accepted c.loop-v.invariant (omega arith) (omega arith) _ c.from.ensures,
    )

pub page_after-page-requires-clause-back : goal.page_after-page-requires-clause-back
page_after-page-requires-clause-back c = u_fits c.args.tree.accepted c.loop-v.invariant (omega arith) (omega arith)

pub page_after-page-requires-clause-up : goal.page_after-page-requires-clause-up
page_after-page-requires-clause-up c =
    parent_fits c.args.tree.accepted c.loop-v.invariant (omega arith) (omega arith) c.parent_after-parent.ensures

pub put-requires-clause-slot : goal.put-requires-clause-slot
put-requires-clause-slot c =
    page_fits c.args.tree.accepted c.loop-v.invariant (omega arith) (omega arith) c.parent_after-parent.ensures
    c.mark_at-mark.ensures c.from.ensures c.page_after-page.ensures

pub put-requires-clause-light : goal.put-requires-clause-light
put-requires-clause-light c =
    omega (
      arith,
      weight_fits c.args.tree.accepted c.loop-v.invariant (omega arith) (omega arith) c.parent_after-parent.ensures
          c.mark_at-mark.ensures c.from.ensures c.page_after-page.ensures,
    )

pub bounds-before-next_at : goal.bounds-before-next_at
bounds-before-next_at c =
    next_fits c.args.tree.accepted c.loop-v.invariant (omega arith) (omega arith) c.next_at.ensures

pub loop-v-preserved : goal.loop-v-preserved
loop-v-preserved c =
    let same : c.loop-v.v + 1 - 1 ≡ c.loop-v.v = omega arith in
    rw (same, c.put.ensures)
    (layout_turn c.args.tree.accepted c.loop-v.invariant (omega arith) (omega arith) c.parent_after-parent.ensures
    c.mark_at-mark.ensures c.from.ensures c.page_after-page.ensures
    c.mark_at.ensures c.is_good-good.ensures (cc (c.or-bad.ensures, c.then_some.ensures)) c.weight_at.ensures c.next_at.ensures)

pub returns-2 : goal.returns-2
returns-2 c =
    let last : c.loop-v.v ≡ c.node_count-v-end.result = omega arith in
    let turn =
    layout_turn c.args.tree.accepted c.loop-v.invariant (omega arith) (omega arith) c.parent_after-parent.ensures
    c.mark_at-mark.ensures c.from.ensures c.page_after-page.ensures
    c.mark_at.ensures c.is_good-good.ensures (cc (c.or-bad.ensures, c.then_some.ensures)) c.weight_at.ensures c.next_at.ensures in
    let end = layout_end c.args.tree.accepted turn (last ∙ c.node_count-v-end.ensures) in
    record { layout = rw c.put.ensures end.0; bad_value = end.1 }
