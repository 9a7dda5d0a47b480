-- The layout of a feasible plan gives the plan's sheets. Proves layout_sheets. Assumes nothing.
use Rattle.std.specs.Prelude.{ℕ, ◌≡◌, List}
use Rattle.std.proofs.Common.{◌∙◌, ap}
use Rattle.model.specs.Table.{limit_of}
use Rattle.model.specs.Plan.{page_count}
use Rattle.model.specs.Sheets.{page_at, sheets_by, sheets_of}
use Rattle.theory.specs.SheetLines.{sheets_same}
use Rattle.layout.specs.declared.Layout.{Layout}
use Rattle.layout.specs.Rows.{FeasibleLayout}
use Rattle.sheets.specs.Lines.{page_in}

pub layout_sheets : {t m : List ℕ} {l : Layout} → FeasibleLayout t m l
    → sheets_by l.pages (limit_of t) (page_in l) ≡ sheets_of t m
unfolding sheets_of
layout_sheets {t} {m} {l} is =
    ap (λ n. sheets_by n (limit_of t) (page_in l)) is.pages_are
    ∙ sheets_same (page_count t m) (limit_of t) (page_in l) (page_at t m)
    (λ p low high. rw (is.firsts_are p low high, is.lasts_are p low high, is.weights_are p low high))
