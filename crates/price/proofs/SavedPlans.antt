-- The saving from what both planners left, one after the other on the same buffers: single first, then best.
-- Proves saving_promised, single_refuses, best_takes, saving_is. Assumes nothing.
use Prim.Native.Nat.{ℕ}
use mathlib.Core.Bool.{true}
use mathlib.Core.Path.{◌≡◌, sym, ◌∙◌, ap, ap₂}
use mathlib.Core.List.{List}
use lib.IntN.{ℤ, pos, ◌-ℤ◌}
use Rattle.model.specs.Table.{limit_of, tree_of}
use Rattle.model.specs.Steps.{best_marks, single_marks}
use Rattle.model.specs.Prices.{total_cents, saving_of}
use Rattle.model.specs.Refusals.{Answer, answer_of, refusal_answer, plan_checks, passes, Outcome}
use Rattle.model.specs.Refusals.{PlanBuffers, plan_left, plan_best, plan_single, SavingLeft, saved, save_best}
use Rattle.model.specs.Demand.{SavingPromise}
use Rattle.model.specs.declared.PlanSize.{PlanSize}
use Rattle.model.specs.declared.Refusal.{Refusal}
use Rattle.model.specs.declared.Verdict.TheVariants.{Feasible}
use Rattle.theory.specs.Entries.{promised}
use Rattle.theory.specs.BestLowest.{single_judged}
use Rattle.theory.specs.PromisePlanner.{passes_lent, planned_done, planned_refused, plan_passes, plan_fails}
use Rattle.theory.specs.PromisePlanner.{planned_again, best_plan_lem}
use Rattle.theory.specs.PromisePrice.{saved_done, saved_refused}
use Rattle.theory.proofs.PromisePrice.{saving_promise}
use Rattle.theory.specs.Refused.{refusal_number}

-- with the equation, the promise
pub saving_promised : (t m s : List ℕ) (r : Answer) (z : ℤ) (m' s' : List ℕ)
    → saved (plan_left r m' s') z ≡ save_best t m s → SavingPromise t m s r z m' s'
saving_promised t m s r z m' s' e =
    (promised
    (λ (r : Answer) (x : SavingLeft). SavingPromise t m s r x.saving x.best.marks x.best.scratch)
    (saving_promise t m s) e).1

module _ (t m s m₁ s₁ : List ℕ) where
  -- what single refuses, best refuses
  pub single_refuses : (r : Refusal) → plan_left (refusal_answer r) m₁ s₁ ≡ plan_single t m s
      → saved (plan_left (refusal_answer r) m₁ s₁) (pos 0) ≡ save_best t m s
  unfolding save_best
  single_refuses r single =
      let fails =
      plan_fails single_marks t m s single_judged
      (λ z. refusal_number r (ap (λ (p : Outcome Answer PlanBuffers). p.answer.number) single ∙ z)) in
      ap₂ saved
      (single ∙ planned_refused single_marks t m s fails ∙ sym (planned_refused best_marks t m s fails))
      (sym (saved_refused t m s fails))

  module _ (plan : PlanSize)
      (single : plan_left (answer_of (Feasible plan.pages plan.root)) m₁ s₁ ≡ plan_single t m s) where
    passed : passes (plan_checks t m s) ≡ true
    passed =
        plan_passes single_marks t m s
        (sym (ap (λ (p : Outcome Answer PlanBuffers). p.answer.number) single))

    single_marks_lem : m₁ ≡ single_marks (limit_of t) (tree_of t)
    single_marks_lem =
        ap (λ (p : Outcome Answer PlanBuffers). p.left.marks) (single ∙ planned_done single_marks t m s passed)

    module _ (a : Answer) (m₂ s₂ : List ℕ) (best : plan_left a m₂ s₂ ≡ plan_best t m₁ s₁) where
      -- best goes on as if it had been lent what single was
      best_left : plan_left a m₂ s₂ ≡ plan_best t m s
      best_left =
          best ∙ ap (λ (p : Outcome Answer PlanBuffers). plan_best t p.left.marks p.left.scratch) single
          ∙ planned_again single_marks t m s single_judged passed best_marks

      best_zero : a.number ≡ 0
      best_zero =
          ap (λ (p : Outcome Answer PlanBuffers). p.answer.number) best_left
          ∙ ap (λ (x : Answer). x.number) ((best_plan_lem t m s).accepts (passes_lent t m s passed)).0

      best_marks_lem : m₂ ≡ best_marks (limit_of t) (tree_of t)
      best_marks_lem =
          ap (λ (p : Outcome Answer PlanBuffers). p.left.marks) (best_left ∙ planned_done best_marks t m s passed)

      -- single total less best total, beside what best leaves
      pub saving_is : (c d : ℕ) (z : ℤ) → c ≡ total_cents t m₁ → d ≡ total_cents t m₂
          → z ≡ pos c -ℤ pos d → saved (plan_left a m₂ s₂) z ≡ save_best t m s
      unfolding save_best saving_of
      saving_is c d z first second less =
          ap₂ saved best_left
          (less
          ∙ ap₂ (λ (x y : ℕ). pos x -ℤ pos y) (first ∙ ap (total_cents t) single_marks_lem)
          (second ∙ ap (total_cents t) best_marks_lem)
          ∙ sym (saved_done t m s passed))

    -- so best does not refuse what single takes
    pub best_takes : (r : Refusal) (m₂ s₂ : List ℕ) → plan_left (refusal_answer r) m₂ s₂ ≡ plan_best t m₁ s₁ → ⊥
    best_takes r m₂ s₂ best = refusal_number r (best_zero (refusal_answer r) m₂ s₂ best)
