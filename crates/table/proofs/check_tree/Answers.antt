use Rattle.std.proofs.Common.{rules}
use Rattle.table.proofs.Told.{accepted_found}
use Rattle.table.proofs.check_tree.Goals as goal

pub invariant_of-result : goal.invariant_of-result
invariant_of-result c =
    record { accepted = accepted_found _ (search rules) (search rules) (search rules) }
