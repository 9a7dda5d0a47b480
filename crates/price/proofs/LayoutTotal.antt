-- A plan's total from the layout of a feasible plan (layout_total), and a sum page by page (sum_next).
-- Assumes nothing.
use Prim.Native.Nat.{ℕ, zero, suc, ◌+◌, ◌-◌, ◌≤◌}
use native.Mathlib.Omega.{arith}
use mathlib.Core.Path.{◌≡◌, ◌∙◌, ap, ap₂}
use mathlib.Core.List.{List}
use lib.ListN.{get_or}
use Rattle.model.specs.Basics.{sum_to}
use Rattle.model.specs.Table.{limit_of}
use Rattle.model.specs.Plan.{page_count}
use Rattle.model.specs.Prices.{cents_for, total_cents}
use Rattle.theory.specs.Ranges.{sum_to_zero, sum_to_suc, sum_to_cong}
use Rattle.layout.specs.declared.Layout.{Layout}
use Rattle.layout.specs.Rows.{FeasibleLayout}

-- as the pages are added up, under a limit that was read
pub layout_total : (t m : List ℕ) (l : Layout) (k cents : ℕ) → FeasibleLayout t m l → k ≡ limit_of t
    → cents ≡ sum_to l.pages (λ p. cents_for (get_or l.weights p 0) k) → cents ≡ total_cents t m
unfolding total_cents
layout_total t m l k cents f e is =
    is
    ∙ ap₂ (λ (n k : ℕ). sum_to n (λ p. cents_for (get_or l.weights p 0) k)) f.pages_are e
    ∙ sum_to_cong (page_count t m) _ _ (λ p low high. ap (λ w. cents_for w (limit_of t)) (f.weights_are p low high))

-- one page more
pub sum_next : (p : ℕ) (f : ℕ → ℕ) → 1 ≤ p → sum_to p f ≡ sum_to (p - 1) f + f p
sum_next zero f low = absurd (omega arith)
sum_next (suc n) f low =
    let e : suc n - 1 ≡ n = omega arith in rw e (sum_to_suc n f)

pub ruleset adding = (sum_to_zero, sum_next)
