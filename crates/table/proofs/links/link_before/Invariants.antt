use Rattle.table.proofs.Linking.{Linking}
use Rattle.table.proofs.links.link_before.Given as goal

abbrev pub invariant-loop-v : goal.invariant-loop-v
invariant-loop-v l = Linking l.table l.v l.prevs
