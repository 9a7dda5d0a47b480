use Rattle.std.proofs.Common.{arith}
use Rattle.theory.specs.ArchiveWords.{second_described}
use Rattle.theory.proofs.ArchiveBack.{editions_apart}
use Rattle.archive.proofs.Reading.{read_entry}
use Rattle.archive.proofs.read.read_archive2.Goals as goal

pub returns-clause-read_promise : goal.returns-clause-read_promise
returns-clause-read_promise c =
    let a = c.args in
    read_entry second_described c.second.ensures a.archive.now a.table.now a.marks.now (λ own other. editions_apart a.archive.now other own)
    (λ i. omega (arith, c.type_inv.archive i)) c.read_edition.ensures
