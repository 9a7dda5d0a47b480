-- The number has ten digits at most.
use Rattle.std.proofs.Common.{append_assoc, arith}
use Rattle.pages.proofs.Digits.{number_long, item_text}
use Rattle.pages.proofs.lines.Lines.put_item.Goals as goal

pub put-requires-2 : goal.put-requires-2
put-requires-2 c =
    let d = c.decimal-count in
    let few = number_long c.args.n d.result d.new.out c.ranges.n.fits d.ensures.len d.ensures.digits d.ensures.in_bounds.1 in
    omega (arith, d.ensures.in_bounds.1, few)

pub returns-clause-written : goal.returns-clause-written
returns-clause-written c =
    let d = c.decimal-count in
    let digits = item_text c.args.n d.result d.new.out c.ranges.n.fits d.ensures.len d.ensures.digits c.args.word.now in
    grind (arith, append_assoc, digits)

pub returns-clause-upper_bound : goal.returns-clause-upper_bound
returns-clause-upper_bound c =
    let d = c.decimal-count in
    let few = number_long c.args.n d.result d.new.out c.ranges.n.fits d.ensures.len d.ensures.digits d.ensures.in_bounds.1 in
    omega (arith, d.ensures.in_bounds.1, few)
