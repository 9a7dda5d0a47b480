use Rattle.std.proofs.Common.{refl, ◌-◌, arith}
use Rattle.theory.specs.Put.{records_none}
use Rattle.film.specs.DecodeTable.{tree_wide}
use Rattle.film.proofs.Passes.{tree_more, tree_put}
use Rattle.film.proofs.decode.fill_tree.Goals as goal

pub loop-v-init : goal.loop-v-init
loop-v-init c = record {
  few = omega arith;
  put = records_none _ 4 (tree_wide _ _ c.args.links.now) 2 _;
}

pub loop-v-preserved : goal.loop-v-preserved
loop-v-preserved c =
    let l = c.loop-v in
    let a = c.args in record {
      few = omega arith;
      put = tree_more _ _ a.links.now (l.v - 1) l.v _ _ _ _ _ _ _ l.tree _ (omega arith) (omega arith) l.invariant.put
          (omega arith) (omega arith) c.node_field-weight.ensures c.node_field-label.ensures c.first_child-first.ensures
          c.sibling_of-next.ensures c.put_record.ensures;
    }

pub returns : goal.returns
returns c =
    let l = c.loop-v in
    tree_put _ _ c.args.links.now _ _ _ _ _ _ _ c.put_word.ensures c.put_word-2.ensures c.nodes-nodes.ensures
    c.limit.ensures (omega arith) (omega arith) l.invariant.put

pub returns-2 : goal.returns-2
returns-2 c =
    let l = c.loop-v in
    let a = c.args in
    let put =
    tree_more _ _ a.links.now (l.v - 1) l.v l.v _ _ _ _ _ _ l.tree _ (omega arith) refl l.invariant.put (omega arith)
    (omega arith) c.node_field-weight.ensures c.node_field-label.ensures c.first_child-first.ensures
    c.sibling_of-next.ensures c.put_record.ensures in
    tree_put _ _ a.links.now _ _ _ _ _ _ _ c.put_word.ensures c.put_word-2.ensures c.nodes-nodes.ensures c.limit.ensures
    (omega arith) (omega arith) put
