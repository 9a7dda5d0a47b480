-- What the program lends: a mark a node, all zero. Proves take_long, report_is. Assumes nothing.
use Prim.Native.Nat.{ℕ, ◌+◌, ◌-◌, ◌≤◌}
use native.Mathlib.Omega.{arith}
use mathlib.Core.Path.{◌≡◌, sym, ◌∙◌, ap}
use mathlib.Core.List.{List}
use lib.ListN.{length, take, replicate, length-replicate, replicate-append-replicate}
use lib.Seq.{take_at}
use Rattle.model.specs.Table.{node_count}
use Rattle.model.specs.Refusals.{plan_best}
use Rattle.pages.specs.Text.{scratch_lent, answer_lines, report_of}

take_zeros : (most n : ℕ) → n ≤ most → take n (replicate {A = ℕ} most 0) ≡ replicate n 0
take_zeros most n h =
    let all : n + (most - n) ≡ most = omega arith in
    ap (λ k. take n (replicate k 0)) (sym all)
    ∙ ap (take n) (sym (replicate-append-replicate n (most - n) 0))
    ∙ take_at (replicate n 0) (replicate (most - n) 0) n (length-replicate n 0)

pub take_long : (most n : ℕ) → n ≤ most → length (take n (replicate {A = ℕ} most 0)) ≡ n
take_long most n h = ap length (take_zeros most n h) ∙ length-replicate n 0

pub report_is : (t : List ℕ) (most n : ℕ) → n ≡ node_count t → n ≤ most
    → answer_lines t (plan_best t (take n (replicate most 0)) (replicate scratch_lent 0)) ≡ report_of t
unfolding report_of
report_is t most n e fits =
    ap (λ m. answer_lines t (plan_best t m (replicate scratch_lent 0)))
    (take_zeros most n fits ∙ ap (λ k. replicate k 0) e)
