use Rattle.std.proofs.Common.{[]}
use Rattle.columns.specs.Cells.{cell_at}
use Rattle.columns.specs.CellsArrays.{Sweeping}
use Rattle.columns.proofs.node.open_block.Given as goal

abbrev pub invariant-loop-s : goal.invariant-loop-s
invariant-loop-s l = Sweeping l.limit 0 0 l.s (λ u. cell_at l.limit [] u) l.initial.words l.words
