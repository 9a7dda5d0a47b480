use Rattle.std.proofs.Common.{rules}
use Rattle.converters.proofs.Converting.{convert_refused, convert_opened}
use Rattle.converters.proofs.convert.convert_edition.Goals as goal

pub returns-in_err-told : goal.returns-in_err-told
returns-in_err-told g c =
    let a = c.args in
    let none = convert_refused _ a.to.edition a.archive.now a.out.now c.in_err-told.ensures.refused in search rules

pub returns : goal.returns
returns g c = convert_opened c.in_ok-told.ensures.opened _ _ (search rules)
