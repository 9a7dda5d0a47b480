use Rattle.std.proofs.Common.{arith}
use Rattle.sheets.proofs.Fields.{begun_start, begun_turn, begun_end}
use Rattle.sheets.proofs.line.put_field.Goals as goal

pub loop-rest-init : goal.loop-rest-init
loop-rest-init c = begun_start c.args.line _ _ _ c.requires.1 c.requires.0 c.requires.2

pub loop-rest-preserved : goal.loop-rest-preserved
loop-rest-preserved c =
    let l = c.loop-rest in
    begun_turn c.args.line _ _ _ c.requires.1 l.out l.i l.rest l.invariant c.loop-rest-test.true

pub returns : goal.returns
returns c =
    let l = c.loop-rest in
    begun_end c.args.line _ _ _ c.requires.1 l.out l.i l.rest l.invariant (omega (arith, c.loop-rest-test.false))
