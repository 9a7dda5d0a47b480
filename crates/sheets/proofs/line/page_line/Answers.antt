use Rattle.std.proofs.Common.{ℕ, List, [], ◌++◌, refl, ◌∙◌, ap}
use Rattle.model.specs.Sheets.{field, line_with, line_for_page}
use Rattle.theory.specs.SheetLines.{length-field, length_more}
use Rattle.sheets.proofs.line.page_line.Goals as goal

pub returns : goal.returns
unfolding line_for_page
returns c =
    let a = c.args in
    let begun : List ℕ = field 6 a.p ++ field 6 a.first in
    let ended : List ℕ = begun ++ field 6 a.last in
    let weighed : List ℕ = ended ++ field 6 a.weight in
    let long_two = length_more (field 6 a.p) 6 a.first 6 (length-field 6 a.p) in
    let long_three = length_more begun 6 a.last 12 long_two in
    let is_one = c.put_field-numbered.ensures [] refl c.blank_line.ensures in
    let is_two = c.put_field-begun.ensures (field 6 a.p) (length-field 6 a.p) is_one in
    let is_three = c.put_field-ended.ensures begun long_two is_two in
    let is_four = c.put_field-weighed.ensures ended long_three is_three in
    c.put_field.ensures weighed (length_more ended 6 a.weight 18 long_three) is_four
    ∙ ap (λ n. line_with (weighed ++ field 4 n)) c.per_cent.ensures
