use Rattle.std.proofs.Common.{refl, sym, ap, ◌∙◌}
use Rattle.model.specs.Table.{table_bytes}
use Rattle.archive.specs.Opened.{opened}
use Rattle.archive.proofs.opened.open_film.Goals as goal

pub slice_bounds-result-end : goal.slice_bounds-result-end
slice_bounds-result-end c =
    let film =
    opened c.requires c.decode.auto.tree c.decode.auto.plan c.in_ok-size.ensures refl c.table_bytes-bytes.ensures
    c.nodes-nodes.ensures in
    c.table_bytes-bytes.ensures ∙ ap table_bytes c.nodes-nodes.ensures ∙ sym film.table_long

pub slice_bounds-result-end-2 : goal.slice_bounds-result-end-2
slice_bounds-result-end-2 c =
    let film =
    opened c.requires c.decode.auto.tree c.decode.auto.plan c.in_ok-size.ensures refl c.table_bytes-bytes.ensures
    c.nodes-nodes.ensures in
    c.nodes-nodes.ensures ∙ sym film.marks_long

pub returns-clause-opened : goal.returns-clause-opened
returns-clause-opened c =
    opened c.requires c.decode.auto.tree c.decode.auto.plan c.in_ok-size.ensures refl c.table_bytes-bytes.ensures
    c.nodes-nodes.ensures
