use Rattle.std.proofs.Common.{◌≡◌, ◌<◌, ℕ, List, refl, ◌∙◌, arith, rules}
use Rattle.model.specs.Table.{node_count}
use Rattle.theory.specs.JudgeAnswers.{page_count_le}
use Rattle.layout.specs.declared.Layout.{Layout}
use Rattle.layout.specs.Rows.{FeasibleLayout}
use Rattle.records.specs.Size.{film_slots}
use Rattle.records.specs.Links.{Fit}
use Rattle.records.specs.Counts.{counted_pages}
use Rattle.records.specs.RecordsOf.{head_put, all_put, next_of_page, page_fits}
use Rattle.writer.proofs.write.fill_archive.Goals as goal

-- the pages of the nodes are places of the arrays
places : {t m : List ℕ} {l : Layout} {n : ℕ} → n ≡ node_count t → node_count t < film_slots → FeasibleLayout t m l
    → (n < film_slots) × Fit n l.page
places {t} {m} {l} is few plan =
    (omega arith, λ v low high. page_fits t m l.page few plan.page_is v low (omega arith))

pub count_nodes-requires : goal.count_nodes-requires
count_nodes-requires c =
    let fit = places c.node_count-nodes.ensures (omega (arith, c.args.format.in_room.most_high)) c.requires.0 in
    (fit.0, fit.1, omega arith, refl)

pub link_next-nexts-requires : goal.link_next-nexts-requires
link_next-nexts-requires c =
    let fit = places c.node_count-nodes.ensures (omega (arith, c.args.format.in_room.most_high)) c.requires.0 in
    (fit.0, fit.1, omega arith)

pub returns : goal.returns
returns c =
    let a = c.args in
    let t = a.table.now in
    let m = a.marks.now in
    let room = a.format.in_room in
    let plan = c.requires.0 in
    let l = a.layout.now in
    let few : node_count t < film_slots = omega (arith, room.most_high) in
    let count = c.node_count-nodes.ensures in
    let counts = c.count_nodes.new.counts in
    let nexts = c.link_next-nexts in
    all_put room t m l.firsts l.lasts l.weights counts l.parents nexts.result l.pages plan.pages_are plan.firsts_are
    plan.lasts_are plan.weights_are
    (λ five.
    counted_pages t m l.page counts _ count plan.page_is (omega (arith, page_count_le t m, few))
    (c.count_nodes.ensures five)) plan.parents_are
    (next_of_page t m l.page nexts.result _ count plan.page_is nexts.ensures) _ _ _
    (head_put room t m a.out.now _ _ _ _ c.put_head.ensures count c.limit_of.ensures (search rules) (omega arith))
    c.put_pages.ensures c.put_nodes.ensures
    (c.put_nodes.auto.out ∙ c.put_pages.auto.out ∙ c.put_head.auto.out ∙ c.requires.2)
