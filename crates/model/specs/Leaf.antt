-- Document 02, Nine, 'A late leaf': the tree with a leaf that is put in as the last child of a node, the numbers of the
-- leaf and of the nodes that were there, and the table of that tree.
use Rattle.std.specs.Prelude.{ℕ, suc, ◌+◌, List, eqb, ltb}
use Rattle.model.specs.Basics.{pick}
use Rattle.model.specs.Table.{node_count, limit_of, first_at, Chain, end, node, chain_from, tree_of, size, encoded}

-- a chain of siblings, with another chain after its last
unfoldable pub followed_by : Chain → Chain → Chain
followed_by end c = c
followed_by (node w l kids next) c = node w l kids (followed_by next c)

-- the chain whose nodes are numbered from m + 1 in the order of the walk: node v's children are followed by a leaf of
-- weight w and label l, and all else is as it was
unfoldable pub with_leaf : ℕ → ℕ → ℕ → ℕ → Chain → Chain
with_leaf v w l m end = end
with_leaf v w l m (node x y kids next) =
    node x y (pick (eqb (suc m) v) (followed_by kids (node w l end end)) (with_leaf v w l (suc m) kids))
    (with_leaf v w l (suc m + size kids) next)

-- the leaf's number: the one after node v and all below it
unfoldable pub leaf_number : List ℕ → ℕ → ℕ
leaf_number t v = suc (v + size (chain_from (node_count t) t (first_at t v)))

-- the number of a node that was there, where the leaf's is x: from x on it is one higher
unfoldable pub raised : ℕ → ℕ → ℕ
raised x u = pick (ltb u x) u (suc u)

-- the table of the tree with the leaf, under the same limit
unfoldable pub leaf_table : List ℕ → ℕ → ℕ → ℕ → List ℕ
leaf_table t v w l = encoded (limit_of t) (with_leaf v w l 0 (tree_of t))
