use Rattle.std.proofs.Common.{rules}
use Rattle.theory.specs.ArchiveWords.{second_described}
use Rattle.writer.proofs.Writing.{write_entry}
use Rattle.writer.proofs.write.write_archive2.Goals as goal

pub returns : goal.returns
returns c =
    let a = c.args in
    let entry =
    write_entry second_described c.second.ensures a.table.now a.marks.now a.out.now c.write_edition.ensures (search rules) in
    record { out_after = entry.0; write_promise = entry.1 }
