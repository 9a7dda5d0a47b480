-- The ends of the printer, as the program comes to them: the judge's refusal, 12, and the sheets; and what it promises.
-- Proves judge_refuses, length_refused, printed, print_promised. Assumes nothing.
use Rattle.std.proofs.Common.{◌≡◌, ◌*◌, ℕ, true, List, length, sym, ap, ap₂, ◌∙◌, arith}
use Rattle.model.specs.Plan.{page_count}
use Rattle.model.specs.Sheets.{sheet_bytes, sheet_count, sheets_of}
use Rattle.model.specs.Refusals.{Answer, refused, answer_of, refusal_answer, sheet_checks, print_checks}
use Rattle.model.specs.Refusals.{plain_rules, feasible_by, judge_by, outcome, print_sheets}
use Rattle.model.specs.Demand.{PrintPromise}
use Rattle.model.specs.declared.Verdict.TheVariants.{Feasible}
use Rattle.model.specs.declared.Refusal.{Refusal}
use Rattle.theory.specs.Entries.{promised}
use Rattle.theory.specs.JudgedEntries.{judge_passes, judge_given, judge_stands, after_stands, after_done}
use Rattle.theory.specs.PromiseSheets.{sheet_short, sheet_long}
use Rattle.theory.specs.Refused.{refusal_number}
use Rattle.theory.proofs.PromiseSheets.{print_promise}
use Rattle.layout.specs.declared.Layout.{Layout}
use Rattle.layout.specs.Rows.{FeasibleLayout}

module _ (t m out : List ℕ) where
  pub judge_refuses : (r : Refusal) → refusal_answer r ≡ judge_by plain_rules t m
      → outcome (refusal_answer r) out ≡ print_sheets t m out
  unfolding print_sheets print_checks
  judge_refuses r is = judge_stands plain_rules t m (sheet_checks t m out) _ out is (refusal_number r)

  -- of a plan that the judge finds feasible
  module _ (pages root : ℕ) (is : answer_of (Feasible pages root) ≡ judge_by plain_rules t m) (l : Layout)
      (layout : FeasibleLayout t m l) (size : ℕ) (size_is : size ≡ sheet_bytes * sheet_count l.pages) where
    feasible : feasible_by plain_rules t m ≡ true
    feasible = judge_passes plain_rules t m (sym (ap (λ (x : Answer). x.number) is))

    size_right : size ≡ sheet_bytes * sheet_count (page_count t m)
    size_right = size_is ∙ ap (λ n. sheet_bytes * sheet_count n) layout.pages_are

    pub length_refused : (length out ≡ size → ⊥) → outcome (refused 12 size) out ≡ print_sheets t m out
    unfolding print_sheets print_checks
    length_refused other =
        after_stands plain_rules t m (sheet_checks t m out) _ out feasible
        (ap (refused 12) size_right ∙ sheet_short t m out (λ fits. other (fits ∙ sym size_right)))
        (λ z. omega arith)

    pub printed : {left : List ℕ} → length out ≡ size → left ≡ sheets_of t m
        → outcome (answer_of (Feasible pages root)) left ≡ print_sheets t m out
    unfolding print_sheets print_checks
    printed fits is_left =
        ap₂ outcome (is ∙ judge_given plain_rules t m feasible) is_left
        ∙ sym (after_done plain_rules t m (sheet_checks t m out) _ out feasible (sheet_long t m out (fits ∙ size_right)))

  pub print_promised : {r : Answer} {left : List ℕ} → outcome r left ≡ print_sheets t m out
      → PrintPromise t m out r left
  print_promised is = (promised (PrintPromise t m out) (print_promise t m out) is).1
