-- After the head, the records of the nodes passed stand.
use Rattle.std.proofs.Common.{◌+◌, ◌-◌, ◌≤◌}
use Rattle.theory.specs.Put.{RecordsPut}
use Rattle.film.specs.DecodeTable.{tree_row}
use Rattle.film.proofs.decode.fill_tree.Given as goal

abbrev pub invariant-loop-v : goal.invariant-loop-v
invariant-loop-v l = record {
  few : l.v ≤ l.nodes + 1;
  put : RecordsPut (tree_row l.film.format.edition l.film.archive.now l.links) 2 (l.v - 1) l.initial.tree l.tree;
}
