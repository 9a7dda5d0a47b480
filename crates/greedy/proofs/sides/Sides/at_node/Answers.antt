use Rattle.std.proofs.Common.{arith}
use Rattle.greedy.proofs.TwoWay.{first_rest, next_rest, sides_fit}
use Rattle.greedy.proofs.sides.Sides.at_node.Goals as goal

pub returns : goal.returns
returns c =
    let tree = c.args.kept.tree.accepted in
    record {
      limit = c.limit_of.ensures;
      weight = c.weight_at.ensures;
      left = first_rest tree c.requires _ _ c.first_at.ensures c.at.ensures;
      right = next_rest tree c.requires _ _ c.next_at.ensures c.at-2.ensures;
    }

pub invariant_of-result : goal.invariant_of-result
invariant_of-result c =
    let tree = c.args.kept.tree.accepted in
    record {
      fits = omega (
        arith,
        c.weight_at.ensures,
        first_rest tree c.requires _ _ c.first_at.ensures c.at.ensures,
        next_rest tree c.requires _ _ c.next_at.ensures c.at-2.ensures,
        sides_fit tree c.requires,
      );
    }
