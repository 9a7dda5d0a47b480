use Rattle.std.proofs.Common.{ap, ◌∙◌, arith, refl}
use Rattle.model.specs.Table.{table_bytes}
use Rattle.archive.specs.Answers.{told_many, told_copy}
use Rattle.archive.proofs.judged.judge_film.Goals as goal

pub returns-then-film-nodes : goal.returns-then-film-nodes
returns-then-film-nodes c = told_many _ refl (omega arith)

pub returns : goal.returns
returns c =
    let count = c.nodes-nodes.ensures in
    told_copy _ (c.table_bytes-bytes.ensures ∙ ap table_bytes count) count c.judge_copy.ensures c.requires.1
