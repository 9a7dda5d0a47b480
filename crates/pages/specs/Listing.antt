-- The lines of a plan, from its layout, and those of a planner's answer, by its number.
-- Defines line_of, head_of, lines_to, layout_lines. Proves layout_lines_lem, lines_refused, lines_planned. Assumes nothing.
use Rattle.std.specs.Prelude.{ℕ, suc, ◌+◌, ◌≡◌, eqb, get_or}
use Rattle.std.proofs.Common.{add-one, ◌∙◌, ap₂, eq-eqb, ne_eqb}
use Rattle.std.proofs.Math.Path.{sym, ap}
use mathlib.Core.List.{List, ◌++◌, append_assoc, append-nil}
use Rattle.model.specs.Basics.{list_to}
use Rattle.model.specs.Table.{limit_of}
use Rattle.model.specs.Plan.{page_count, page_weight}
use Rattle.model.specs.Runs.{page_run}
use Rattle.model.specs.Refusals.{Outcome, PlanBuffers, plan_left}
use Rattle.model.specs.Refusals.{Answer}
use Rattle.theory.specs.Ranges.{pick_true, pick_false, list_to_zero, list_to_suc, list_to_cong}
use Rattle.layout.specs.declared.Layout.{Layout}
use Rattle.layout.specs.Rows.{FeasibleLayout}
use Rattle.pages.specs.Text.{head_line, page_line, refusal_line, plan_lines, answer_lines}

-- ---- Lines of a layout

-- the line of page p
unfoldable pub line_of : Layout → ℕ → List ℕ
line_of l p = page_line p (get_or l.firsts p 0) (get_or l.lasts p 0) (get_or l.weights p 0)

abbrev pub head_of : Layout → ℕ → List ℕ
head_of l limit = head_line l.pages (get_or l.weights 1 0) limit

-- the head line, and the lines of the pages 1 to n
unfoldable pub lines_to : Layout → ℕ → ℕ → List ℕ
lines_to l limit n = head_of l limit ++ list_to n (line_of l)

unfoldable pub layout_lines : Layout → ℕ → List ℕ
layout_lines l limit = lines_to l limit l.pages

module _ (l : Layout) (limit : ℕ) where
  pub lines_start : lines_to l limit 0 ≡ head_of l limit
  unfolding lines_to
  lines_start = ap (λ (x : List ℕ). head_of l limit ++ x) (list_to_zero (line_of l)) ∙ append-nil (head_of l limit)

  pub lines_more : (n : ℕ) → lines_to l limit (n + 1) ≡ lines_to l limit n ++ line_of l (n + 1)
  unfolding lines_to
  lines_more n =
      rw (add-one n)
      (ap (λ (x : List ℕ). head_of l limit ++ x) (list_to_suc n (line_of l))
      ∙ sym (append_assoc (head_of l limit) (list_to n (line_of l)) (line_of l (suc n))))

-- the layout of a feasible plan gives the plan's lines
pub layout_lines_lem : {t m : List ℕ} {l : Layout} → FeasibleLayout t m l → layout_lines l (limit_of t) ≡ plan_lines t m
unfolding layout_lines lines_to line_of plan_lines
layout_lines_lem {t} {m} {l} f =
    ap₂ (λ (h x : List ℕ). h ++ x) (ap₂ (λ n w. head_line n w (limit_of t)) f.pages_are f.root_is)
    (ap (λ n. list_to n (line_of l)) f.pages_are
    ∙ list_to_cong (page_count t m) (line_of l)
    (λ q. page_line q (page_run t m q).first (page_run t m q).last (page_weight t m q))
    (λ q low high. rw (f.firsts_are q low high, f.lasts_are q low high, f.weights_are q low high)))

-- ---- The planner's answer

module _ (t : List ℕ) (r : Answer) (m s : List ℕ) {made : Outcome Answer PlanBuffers} (is : plan_left r m s ≡ made) where
  pub lines_refused : (r.number ≡ 0 → ⊥) → refusal_line r.number r.place ≡ answer_lines t made
  unfolding answer_lines
  lines_refused h =
      sym (pick_false (eqb r.number 0) (plan_lines t m) (refusal_line r.number r.place) (ne_eqb r.number 0 h))
      ∙ ap (answer_lines t) is

  pub lines_planned : r.number ≡ 0 → plan_lines t m ≡ answer_lines t made
  unfolding answer_lines
  lines_planned z =
      sym (pick_true (eqb r.number 0) (plan_lines t m) (refusal_line r.number r.place) (eq-eqb r.number 0 z))
      ∙ ap (answer_lines t) is
