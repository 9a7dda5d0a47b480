use Rattle.std.proofs.Common.{◌+◌, get_or}
use Rattle.columns.specs.Cells.{lower}
use Rattle.columns.specs.CellsArrays.{cell_in, Sweeping}
use Rattle.columns.proofs.column.relax.Given as goal

abbrev pub invariant-loop-s : goal.invariant-loop-s
invariant-loop-s l =
    let xs = l.initial.words in
    Sweeping l.limit l.start l.here l.s
    (λ u. lower (get_or xs (l.before + u) 0 + l.added) l.len (cell_in xs l.limit l.here u)) xs l.words
