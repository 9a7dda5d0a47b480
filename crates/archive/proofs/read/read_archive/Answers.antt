use Rattle.std.proofs.Common.{arith}
use Rattle.theory.specs.ArchiveWords.{first_described}
use Rattle.theory.proofs.ArchiveBack.{editions_apart}
use Rattle.archive.proofs.Reading.{read_entry}
use Rattle.archive.proofs.read.read_archive.Goals as goal

pub returns-clause-read_promise : goal.returns-clause-read_promise
returns-clause-read_promise c =
    let a = c.args in
    read_entry first_described c.first.ensures a.archive.now a.table.now a.marks.now (editions_apart a.archive.now)
    (λ i. omega (arith, c.type_inv.archive i)) c.read_edition.ensures
