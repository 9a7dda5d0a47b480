use Rattle.std.proofs.Common.{sym, arith, rules}
use Rattle.theory.specs.Ranges.{first_to_none, first_to-first}
use Rattle.table.proofs.first_to.Goals as goal

pub returns-then-passes : goal.returns-then-passes
returns-then-passes g c test same =
    let v = c.loop-v.v in
    sym (first_to-first _ v test (record {
      low = omega arith;
      high = omega arith;
      passed = sym (same v _ (omega arith) (omega arith) (search rules));
      before = λ u low less. sym (same u _ low (omega arith) (c.loop-v.invariant u low less));
    }))

pub returns : goal.returns
returns g c test same =
    sym (first_to_none _ test (λ u low high. sym (same u _ low high (grind (arith, c.loop-v.invariant u low)))))
