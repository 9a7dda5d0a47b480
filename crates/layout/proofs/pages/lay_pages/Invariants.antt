use Rattle.std.proofs.Common.{◌-◌}
use Rattle.layout.proofs.Turns.{LayoutTo}
use Rattle.layout.proofs.pages.lay_pages.Given as goal

abbrev pub invariant-loop-v : goal.invariant-loop-v
invariant-loop-v l = LayoutTo l.table l.marks (l.v - 1) l.before l.layout l.bad
