use Rattle.std.proofs.Common.{◌≡◌, ℕ, sym, ap, ap₂, ◌∙◌, arith, List, get_or, ltb}
use Rattle.std.specs.declared.option.Option.{Option}
use Rattle.std.specs.declared.option.Option.TheVariants.{Some, None}
use Rattle.model.specs.Basics.{first_to}
use Rattle.model.specs.Table.{limit_of}
use Rattle.model.specs.Plan.{bad_mark, heavy_page, page_count, page_weight, verdict_of}
use Rattle.model.specs.declared.Verdict.TheVariants.{Feasible}
use Rattle.theory.specs.Ranges.{at_place_at, at_place_nowhere, first_to_cong}
use Rattle.theory.specs.TableFacts.{AcceptedFacts}
use Rattle.theory.specs.JudgeAnswers.{page_count_le}
use Rattle.layout.specs.declared.Layout.{Layout}
use Rattle.layout.specs.Rows.{IsLayout}
use Rattle.judge.proofs.judge_made.Goals as goal

-- the first heavy page by the layout is the plan's
heavy_is : {t m : List ℕ} {r : Layout} {limit : ℕ} {o : Option ℕ} → AcceptedFacts t → IsLayout t m r
    → o ≡ first_to r.pages (λ p. ltb limit (get_or r.weights p 0)) → limit ≡ limit_of t → heavy_page t m ≡ o
unfolding heavy_page
heavy_is {t} {m} {r} {limit} {o} a laid e d =
    sym
    (e
    ∙ ap₂ (λ (n k : ℕ). first_to n (λ p. ltb k (get_or r.weights p 0))) laid.pages_are d
    ∙ first_to_cong (page_count t m) (λ p. ltb (limit_of t) (get_or r.weights p 0))
    (λ p. ltb (limit_of t) (page_weight t m p))
    (λ p low high. ap (ltb (limit_of t)) (laid.weights_are p (omega (arith, page_count_le t m, a.sound.count_high)))))

pub first_heavy-heavy-requires : goal.first_heavy-heavy-requires
first_heavy-heavy-requires c =
    omega (
      arith,
      c.lay_pages-bad.ensures.layout.pages_are,
      page_count_le c.args.tree.table.now c.args.marks.now,
      c.args.tree.accepted.sound.count_high,
    )

pub returns-in-Some-default-clause-value : goal.returns-in-Some-default-clause-value
unfolding verdict_of
returns-in-Some-default-clause-value c =
    let t = c.args.tree.table.now in
    let m = c.args.marks.now in
    let bad : bad_mark t m ≡ Some c.in-Some-default.node = cc c.lay_pages-bad.ensures.bad_value in
    sym (at_place_at _ _ _ _ bad)

pub returns-in-None-Some-clause-value : goal.returns-in-None-Some-clause-value
unfolding verdict_of
returns-in-None-Some-clause-value c =
    let t = c.args.tree.table.now in
    let m = c.args.marks.now in
    let good : bad_mark t m ≡ None = cc c.lay_pages-bad.ensures.bad_value in
    let first = heavy_is c.args.tree.accepted c.lay_pages-bad.ensures.layout c.first_heavy-heavy.ensures c.limit_of.ensures in
    let heavy : heavy_page t m ≡ Some c.in-None-Some.page = cc first in
    sym (at_place_nowhere _ _ _ good ∙ at_place_at _ _ _ _ heavy)

pub returns-in-None-None-clause-value : goal.returns-in-None-None-clause-value
unfolding verdict_of
returns-in-None-None-clause-value c =
    let t = c.args.tree.table.now in
    let m = c.args.marks.now in
    let layout = c.lay_pages-bad.ensures.layout in
    let good : bad_mark t m ≡ None = cc c.lay_pages-bad.ensures.bad_value in
    let first = heavy_is c.args.tree.accepted layout c.first_heavy-heavy.ensures c.limit_of.ensures in
    let light : heavy_page t m ≡ None = cc first in
    ap₂ (λ (p r : ℕ). Feasible p r) layout.pages_are (layout.weights_are 1 (omega arith))
    ∙ sym (at_place_nowhere _ _ _ good ∙ at_place_nowhere _ _ _ light)
