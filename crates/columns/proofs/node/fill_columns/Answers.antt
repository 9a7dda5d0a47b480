use Rattle.std.proofs.Common.{arith}
use Rattle.columns.proofs.NodeColumns.{filling_start, filling_column, filling_turn, filling_end}
use Rattle.columns.proofs.node.fill_columns.Goals as goal

pub loop-child-init : goal.loop-child-init
loop-child-init c =
    rw c.first_at-child.ensures (filling_start c.requires.0 c.args.v c.requires.1 c.requires.2)

pub fill_column-requires : goal.fill_column-requires
fill_column-requires c =
    let l = c.loop-child in
    let limit = c.limit_of-limit.ensures in
    let weight = c.weight_at-start.ensures in
    let light = c.requires.0.accepted.light c.args.v c.requires.1 c.requires.2 in
    let column =
    filling_column c.requires.0 c.args.v c.requires.1 c.requires.2 l.last l.child l.words l.invariant
    c.loop-child-test.true in
    (omega (arith, limit, weight, light), rw (limit, weight) column)

pub loop-child-preserved : goal.loop-child-preserved
loop-child-preserved c =
    let l = c.loop-child in
    rw c.next_at-child.ensures
    (filling_turn c.requires.0 c.args.v c.requires.1 c.requires.2 l.last l.child l.words l.invariant
    c.loop-child-test.true _ (rw (c.limit_of-limit.ensures, c.weight_at-start.ensures) at c.fill_column.ensures))

pub returns : goal.returns
returns c =
    let l = c.loop-child in
    filling_end _ l.last l.child l.invariant c.loop-child-test.false
