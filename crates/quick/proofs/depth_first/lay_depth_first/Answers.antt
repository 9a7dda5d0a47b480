use Rattle.std.proofs.Common.{◌≡◌, ◌+◌, ◌-◌, ◌<◌, ◌∙◌, arith, sym, inl, inr, eq-eqb, ne_eqb, set, ap}
use Rattle.model.specs.Table.{node_count}
use Rattle.theory.specs.Ranges.{pick_true, pick_false}
use Rattle.quick.specs.declared.depth_first.Page.{Page}
use Rattle.quick.proofs.DepthTurns.{SeenTo, ParentAs, stored, seen_start, number_fits}
use Rattle.quick.proofs.DepthTurns.{parent_slot, node_turn, depth_end}
use Rattle.quick.proofs.depth_first.lay_depth_first.Goals as goal
use Rattle.quick.proofs.depth_first.lay_depth_first.Goals.{then-u-eq0, else-u-eq0, then-mark-eq1, else-mark-eq1}
use Rattle.quick.proofs.depth_first.lay_depth_first.Goals.{After-next_at, After-weight_at-weight}

pub loop-v-init : goal.loop-v-init
loop-v-init c = seen_start _ _ c.requires

-- the parent of the node of the turn is within the array
parent_lem : (c : After-weight_at-weight) → ParentAs c.loop-v.nodes c.loop-v.v c.if-u-eq0.parent
parent_lem c =
    elim c.if-u-eq0.branch [
      | then-u-eq0 w ↦ w.parent-is ∙ sym (pick_true _ _ _ (eq-eqb _ _ w.if-u-eq0.true))
      | else-u-eq0 w ↦ w.parent-is ∙ sym (pick_false _ _ _ (ne_eqb _ _ w.if-u-eq0.false))
    ]

pub bounds-nodes-parent : goal.bounds-nodes-parent
bounds-nodes-parent c =
    let l = c.loop-v in
    parent_slot c.args.tree.accepted l.invariant (omega arith) l.v (omega arith) _
    (parent_lem (goal.at.bounds-nodes-parent c).After-weight_at-weight)

pub overflow_add-page : goal.overflow_add-page
overflow_add-page c =
    let l = c.loop-v in
    let less : l.v - 1 < node_count c.args.tree.table.now = omega arith in
    omega (arith, number_fits c.args.tree.accepted l.invariant.depth less)

-- the turn of a node, after which the loop goes on or ends
turn_lem : (c : After-next_at) → let l = c.loop-v in
    let page = c.if-mark-eq1.page in
    ParentAs l.nodes l.v c.if-u-eq0.parent
    → SeenTo c.args.tree.table.now l.v (stored l.nodes l.v c.if-u-eq0.parent page.number c.next_at.result) page.number
    page.weight (set l.marks (l.v - 1) c.mark-mark.result)
turn_lem c parent =
    let l = c.loop-v in
    node_turn c.args.tree.accepted l.invariant (omega arith) l.v (omega arith) _ parent _ _ _
    c.limit_of-limit.ensures c.weight_at-weight.ensures c.mark-mark.ensures _ _ _ c.next_at.ensures
    (elim c.if-mark-eq1.branch [
      | then-mark-eq1 w ↦
          inl (w.if-mark-eq1.true, ap (λ (p : Page). p.number) w.page-is, ap (λ (p : Page). p.weight) w.page-is)
      | else-mark-eq1 w ↦
          inr (w.if-mark-eq1.false, ap (λ (p : Page). p.number) w.page-is, ap (λ (p : Page). p.weight) w.page-is)
    ])

pub loop-v-preserved : goal.loop-v-preserved
loop-v-preserved c =
    let same : c.loop-v.v + 1 - 1 ≡ c.loop-v.v = omega arith in
    let at = goal.at.loop-v-preserved c in
    rw same (turn_lem at.After-next_at (parent_lem at.After-weight_at-weight))

pub returns-after-mark-eq1 : goal.returns-after-mark-eq1
returns-after-mark-eq1 c =
    let at = goal.at.returns-after-mark-eq1 c in
    depth_end c.args.tree.accepted (turn_lem at.After-next_at (parent_lem at.After-weight_at-weight)) (omega arith)
