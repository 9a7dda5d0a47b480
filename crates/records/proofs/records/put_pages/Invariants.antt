-- The records of the pages passed stand after the head.
use Rattle.std.proofs.Common.{◌+◌, ◌-◌, ◌≤◌}
use Rattle.theory.specs.Put.{RecordsPut}
use Rattle.records.specs.RecordsOf.{page_row}
use Rattle.records.proofs.records.put_pages.Given as goal

abbrev pub invariant-loop-p : goal.invariant-loop-p
invariant-loop-p l = record {
  few : l.p ≤ l.pages + 1;
  put : RecordsPut (page_row l.edition l.layout.firsts l.layout.lasts l.layout.weights l.counts l.pages) l.edition.head
      (l.p - 1) l.fn.out l.out;
}
