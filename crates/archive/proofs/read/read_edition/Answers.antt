use Rattle.std.proofs.Common.{rules}
use Rattle.archive.proofs.Reading.{read_refused, table_refused, marks_refused, read_opened}
use Rattle.archive.proofs.read.read_edition.Goals as goal

pub returns-in_err-told : goal.returns-in_err-told
returns-in_err-told g c =
    let a = c.args in
    let none = read_refused _ a.archive.now a.table.now a.marks.now c.in_err-told.ensures.refused in search rules

pub returns-then-table-told : goal.returns-then-table-told
returns-then-table-told g c = table_refused c.in_ok-told.ensures.opened _ _ (search rules)

pub returns-then-marks-told : goal.returns-then-marks-told
returns-then-marks-told g c = marks_refused c.in_ok-told.ensures.opened _ _ (search rules) (search rules)

pub returns : goal.returns
returns g c =
    read_opened c.in_ok-told.ensures.opened _ _ (search rules) (search rules) (search rules) (search rules)
