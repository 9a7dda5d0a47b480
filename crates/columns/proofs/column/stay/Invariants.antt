use Rattle.std.proofs.Common.{◌+◌, get_or}
use Rattle.columns.specs.Cells.{stay_cell}
use Rattle.columns.specs.CellsArrays.{Sweeping}
use Rattle.columns.proofs.column.stay.Given as goal

abbrev pub invariant-loop-s : goal.invariant-loop-s
invariant-loop-s l =
    let xs = l.initial.words in
    Sweeping l.limit l.start l.here l.s
    (λ u. stay_cell l.limit u l.rest (get_or xs (l.before + (u + l.rest)) 0)) xs l.words
