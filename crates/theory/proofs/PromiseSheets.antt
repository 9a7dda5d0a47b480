-- What the printer of leader sheets promises beside its equation (print_promise): every feasible plan is printed, and
-- the sheets, read by their columns, tell it. Every number of a page of a feasible plan fits its field (pages_fit).
-- Assumes nothing.
use Rattle.std.specs.Prelude.{ℕ, ◌≤◌, true, ◌&&◌, ◌≡◌, List}
use native.Mathlib.Omega.{arith}
use Rattle.std.proofs.Common.{◌∙◌}
use Rattle.std.proofs.Math.Path.{ap}
use Rattle.std.proofs.Math.Dec.{eqb}
use Rattle.model.specs.Table.{node_count, limit_of}
use Rattle.model.specs.Plan.{begins, has_mark, in_run, page_of, page_count, verdict_of}
use Rattle.model.specs.Runs.{page_run}
use Rattle.model.specs.Sheets.{page_at, sheets_of}
use Rattle.model.specs.Refusals.{sheet_checks, print_checks, answer_of, plain_rules}
use Rattle.model.specs.Refusals.{feasible_plan, outcome, Written, print_sheets}
use Rattle.model.specs.Demand.{PageTold, PrintPromise}
use Rattle.theory.specs.Ranges.{last_to_le}
use Rattle.theory.specs.Checks.{Never, sheet_plain}
use Rattle.theory.specs.Entries.{entry_passed, entry_accepted, entry_kept}
use Rattle.theory.specs.PlanFeasible.{Judged, within_limit_lem, feasible_judged, judged_verdict}
use Rattle.theory.specs.JudgedEntries.{after_never, after_parts, after_zero, after_done}
use Rattle.theory.specs.PagesByNumber.{last_on_page, first_found, last_found}
use Rattle.theory.specs.SheetsRead.{sheet_numbers, PageFits, tells_number, tells_first, tells_last, tells_weight}
use Rattle.theory.specs.SheetsRead.{tells_share}
use Rattle.theory.specs.PromiseWeight.{print_weight}
use Rattle.theory.specs.PromiseSheets.{share_most, pages_most, sheets_fit, sheet_long}

-- ---- Every number of a feasible plan fits its field

module _ {t m : List ℕ} (j : Judged t m) where
  module _ (p : ℕ) (low : 1 ≤ p) (high : p ≤ page_count t m) where
    run_most : ((page_run t m p).first ≤ node_count t) × ((page_run t m p).last ≤ node_count t)
    unfolding last_on_page
    run_most =
        let s = j.tree.sound in (
          omega (
            arith,
            first_found s m j.marked p low high,
            last_to_le (node_count t) (λ u. eqb (page_of t m u) p && has_mark m begins u),
          ),
          omega (
            arith,
            last_found s m j.marked p low high,
            last_to_le (node_count t) (λ u. eqb (page_of t m u) p && in_run m u),
          ),
        )

    pub pages_fit : PageFits (page_count t m) (limit_of t) (page_at t m) p
    pages_fit =
        let count = j.tree.sound.count_high in
        record {
          number = omega (arith, pages_most j);
          first = omega (arith, run_most.0, count);
          last = omega (arith, run_most.1, count);
          weight = omega (arith, within_limit_lem j p low high, j.tree.sound.limit_high);
          share = omega (arith, share_most _ _ (within_limit_lem j p low high));
        }

-- ---- The promise

module _ (t m out : List ℕ) where
  print_never : Never 0 (print_checks t m out)
  unfolding print_checks
  print_never = after_never plain_rules t m (sheet_checks t m out) (sheet_plain t m out).0

  wrote : (print_sheets t m out).answer.number ≡ 0
      → (feasible_plan t m ≡ true) × (print_sheets t m out ≡ outcome (answer_of (verdict_of t m)) (sheets_of t m))
  unfolding print_sheets print_checks feasible_plan
  wrote z = (
    (after_parts plain_rules t m (sheet_checks t m out) (entry_passed _ _ out (print_checks t m out) print_never z)).0,
    entry_accepted _ _ out (print_checks t m out) print_never z,
  )

  pages_told : Judged t m → (p : ℕ) → 1 ≤ p → p ≤ page_count t m → PageTold t m (sheets_of t m) p
  unfolding sheets_of
  pages_told j p low high =
      let fits = pages_fit j p low high in
      record {
        number = tells_number _ _ (page_at t m) p low high fits;
        first = tells_first _ _ (page_at t m) p low high fits;
        last = tells_last _ _ (page_at t m) p low high fits;
        weight = tells_weight _ _ (page_at t m) p low high fits;
        share = tells_share _ _ (page_at t m) p low high fits;
      }

  pub print_promise : PrintPromise t m out (print_sheets t m out).answer (print_sheets t m out).left
  unfolding print_sheets print_checks feasible_plan sheets_of
  print_promise =
      record {
        accepts =
            λ f fits.
            ap (λ (w : Written). w.answer) (after_done plain_rules t m (sheet_checks t m out) _ _ f (sheet_long t m out fits))
            ∙ ap answer_of (judged_verdict (feasible_judged t m f));
        pages = λ z. rw (wrote z).1 (pages_told (feasible_judged t m (wrote z).0));
        sheets =
            λ z s low high.
            let fits = sheets_fit (feasible_judged t m (wrote z).0) s high in
            rw (wrote z).1 (sheet_numbers (page_count t m) (limit_of t) (page_at t m) s low high fits.0 fits.1);
        kept = entry_kept _ _ out (print_checks t m out) (after_zero plain_rules t m (sheet_checks t m out));
        weight = print_weight t m out;
      }
