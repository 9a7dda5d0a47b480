use Rattle.std.proofs.Common.{arith}
use Rattle.theory.specs.ArchiveWords.{first_described, second_described}
use Rattle.converters.proofs.Converting.{convert_entry}
use Rattle.converters.proofs.convert.convert_to_1.Goals as goal

pub returns-clause-convert_promise : goal.returns-clause-convert_promise
returns-clause-convert_promise c =
    convert_entry second_described first_described c.second.ensures c.first.ensures c.args.archive.now c.args.out.now
    (λ i. omega (arith, c.type_inv.archive i)) c.convert_edition.ensures
