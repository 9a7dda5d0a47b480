-- The records of the nodes passed stand after what stood before.
use Rattle.std.proofs.Common.{◌+◌, ◌-◌, ◌≤◌}
use Rattle.theory.specs.Put.{RecordsPut}
use Rattle.records.specs.RecordsOf.{node_row}
use Rattle.records.proofs.records.put_nodes.Given as goal

abbrev pub invariant-loop-v : goal.invariant-loop-v
invariant-loop-v l = record {
  few : l.v ≤ l.v-end + 1;
  put : RecordsPut (node_row l.table l.layout.parents l.nexts) l.start (l.v - 1) l.fn.out l.out;
}
