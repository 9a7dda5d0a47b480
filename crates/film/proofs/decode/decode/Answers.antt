use Rattle.std.proofs.Common.{sym, ◌∙◌, arith, get_or}
use Rattle.std.proofs.Math.Bool.{true≢false}
use Rattle.model.specs.Archive.{parent_in}
use Rattle.records.specs.Links.{next_with_le}
use Rattle.film.specs.Decoded.{too_many}
use Rattle.film.specs.DecodeTable.{fitted_small}
use Rattle.film.proofs.Passes.{decoded}
use Rattle.film.proofs.decode.decode.Goals as goal

pub returns-then-film-nodes : goal.returns-then-film-nodes
returns-then-film-nodes c = λ y.
    absurd (true≢false (sym y ∙ too_many _ _ (omega (arith, c.nodes-nodes.ensures))))

pub link_next-links-requires : goal.link_next-links-requires
link_next-links-requires c =
    let a = c.args in (
      omega arith,
      λ v low high.
          omega (
            arith,
            c.load_parents-parents.ensures v low high,
            fitted_small (parent_in a.film.format.edition a.film.archive.now v),
          ),
      omega arith,
    )

pub fill_marks-requires : goal.fill_marks-requires
fill_marks-requires c =
    let nodes = c.nodes-nodes.result in
    let parents = c.load_parents-parents.result in (
      omega arith,
      λ v low high.
          omega (
            arith,
            c.link_next-links.ensures v low high,
            next_with_le (λ u. get_or parents u 0) nodes v (get_or parents v 0),
          ),
      omega arith,
    )

pub returns : goal.returns
returns c =
    let nodes = c.nodes-nodes in
    decoded c.args.film.format.in_room _ _ _ _ _ _ nodes.result nodes.ensures c.load_parents-parents.ensures
    c.link_next-links.ensures c.load_lasts-lasts.ensures c.fill_tree.ensures c.fill_marks.ensures
    (omega (arith, nodes.ensures))
