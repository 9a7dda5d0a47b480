-- Leader sheets of feasible plans: the share of a page is at most 100 per cent (share_most), page count and sheet numbers
-- fit their fields (sheets_fit), and what an output's length comes to (sheet_short, sheet_long). Assumes nothing.
use Rattle.std.specs.Prelude.{ℕ, ◌*◌, ◌^◌, ◌≤◌, ◌<◌, true, ◌≡◌, List, length}
use native.Mathlib.Omega.{arith}
use Rattle.std.proofs.Math.Nat.{div-le_of_le-mul}
use Rattle.model.specs.Table.{max_nodes}
use Rattle.model.specs.Plan.{page_count, verdict_of}
use Rattle.model.specs.Sheets.{sheet_bytes, sheet_count, per_cent}
use Rattle.model.specs.Refusals.{sheet_checks, passes, answer_of, refused, first_of}
use Rattle.theory.specs.JudgeAnswers.{page_count_le}
use Rattle.theory.specs.PlanFeasible.{Judged}
use Rattle.theory.specs.JudgedEntries.{short_output}
use Rattle.theory.specs.JudgedEntries.{long_output}

-- ---- Every number of a feasible plan fits its field

-- the whole per cent of a weight within the limit
pub share_most : (weight limit : ℕ) → weight ≤ limit → per_cent weight limit ≤ 100
share_most weight limit within = div-le_of_le-mul limit (omega arith)

module _ {t m : List ℕ} (j : Judged t m) where
  pub pages_most : page_count t m ≤ max_nodes
  pages_most = omega (arith, page_count_le t m, j.tree.sound.count_high)

  pub sheets_fit : (s : ℕ) → s ≤ sheet_count (page_count t m) → (page_count t m < 10 ^ 6) × (s < 10 ^ 6)
  sheets_fit s high = (omega (arith, pages_most), omega (arith, pages_most))

-- ---- The printer's answers

module _ (t m out : List ℕ) where
  -- 12: the output has the wrong length
  pub sheet_short : (length out ≡ sheet_bytes * sheet_count (page_count t m) → ⊥)
      → refused 12 (sheet_bytes * sheet_count (page_count t m))
      ≡ first_of (sheet_checks t m out) (answer_of (verdict_of t m))
  unfolding sheet_checks
  sheet_short other = short_output _ out (answer_of (verdict_of t m)) other

  pub sheet_long : length out ≡ sheet_bytes * sheet_count (page_count t m) → passes (sheet_checks t m out) ≡ true
  unfolding sheet_checks
  sheet_long fits = long_output _ out fits
