use Rattle.std.proofs.Common.{◌≡◌, ◌∙◌, arith, sym, get_or, eqb, eq-eqb, ne_eqb}
use Rattle.model.specs.Basics.{pick}
use Rattle.theory.specs.Ranges.{pick_true, pick_false}
use Rattle.quick.proofs.RightmostNodes.{settle_cuts, sum_fits, settled_node}
use Rattle.quick.proofs.rightmost.settle_node.Goals as goal
use Rattle.quick.proofs.rightmost.settle_node.Goals.{then-next-eq0, else-next-eq0}

pub cut_runs-rest-requires : goal.cut_runs-rest-requires
cut_runs-rest-requires c = settle_cuts c.args.tree.accepted c.requires.0 c.requires.1 c.requires.2

pub overflow_add-nodes : goal.overflow_add-nodes
overflow_add-nodes c =
    let p = c.requires in
    omega (
      arith,
      sum_fits c.args.tree.accepted p.0 p.1 p.2 _ c.cut_runs-rest.ensures _ c.next_at-next.ensures,
    )

pub returns : goal.returns
returns c =
    let p = c.requires in
    let next = c.next_at-next.result in
    let last : c.if-next-eq0.nodes ≡ pick (eqb next 0) c.args.v (get_or c.args.nodes.now.lasts next 0) =
    elim c.if-next-eq0.branch [
      | then-next-eq0 w ↦ w.nodes-is ∙ sym (pick_true _ _ _ (eq-eqb _ _ w.if-next-eq0.true))
      | else-next-eq0 w ↦ w.nodes-is ∙ sym (pick_false _ _ _ (ne_eqb _ _ w.if-next-eq0.false))
    ] in
    settled_node c.args.tree.accepted p.0 p.1 p.2 _ c.cut_runs-rest.ensures _ _ c.next_at-next.ensures last
    c.cut_runs-rest.auto.marks
