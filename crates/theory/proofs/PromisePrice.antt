-- What the price of a plan and the saving promise beside their equations (price_promise, saving_promise).
-- Assumes nothing.
use Rattle.std.specs.Prelude.{ℕ, true, ◌≡◌, List}
use Rattle.std.proofs.Common.{◌∙◌}
use Rattle.std.proofs.Math.Path.{ap}
use Rattle.model.specs.Table.{Chain, limit_of, tree_of}
use Rattle.model.specs.Plan.{verdict_of}
use Rattle.model.specs.Steps.{best_marks, single_marks}
use Rattle.model.specs.Prices.{total_cents, saving_of}
use Rattle.model.specs.Refusals.{Check, judge_checks, feasible_plan, answer_of, plain_rules, Outcome}
use Rattle.model.specs.Refusals.{outcome, checked, judge_plan, PlanBuffers, planned, price_plan, save_best}
use Rattle.model.specs.Demand.{PricePromise, SavingPromise}
use Rattle.model.specs.Refusals.{Answer}
use Rattle.theory.specs.Checks.{judge_never}
use Rattle.theory.specs.Entries.{entry_done, entry_passed, entry_kept}
use Rattle.theory.specs.TableFacts.{AcceptedFacts}
use Rattle.theory.specs.PlanFeasible.{Judged, within_limit_lem, feasible_judged, judged_verdict}
use Rattle.theory.specs.JudgedEntries.{given_zero}
use Rattle.theory.specs.PromiseWeight.{judge_weight}
use Rattle.theory.specs.PromisePlanner.{planned_done, plan_passes, plan_fails, made_feasible, best_plan_lem}
use Rattle.theory.specs.PromisePlanner.{best_promise}
use Rattle.theory.specs.BestLowest.{best_judged, single_judged}
use Rattle.theory.specs.PricePages.{fill_most, less_is}
use Rattle.theory.specs.PromisePrice.{saved_done, saved_refused}
use Rattle.theory.proofs.PricePages.{fill_full, total_range}

-- ---- The price

module _ (t m : List ℕ) where
  abbrev judging : List Check
  judging = judge_checks plain_rules t m

  priced : feasible_plan t m ≡ true → price_plan t m ≡ outcome (answer_of (verdict_of t m)) (total_cents t m)
  unfolding price_plan feasible_plan
  priced f = entry_done _ _ 0 judging f

  -- where the price is given the plan is feasible
  price_passes : (price_plan t m).answer.number ≡ 0 → feasible_plan t m ≡ true
  unfolding price_plan feasible_plan
  price_passes z = entry_passed _ _ 0 judging (judge_never plain_rules t m) z

  pub price_promise : PricePromise t m (price_plan t m).answer (price_plan t m).left
  unfolding price_plan checked judge_plan
  price_promise =
      record {
        accepts =
            λ f. (
              ap (λ (w : Outcome Answer ℕ). w.answer) (priced f)
                  ∙ ap answer_of (judged_verdict (feasible_judged t m f)),
              ap (λ (w : Outcome Answer ℕ). w.left) (priced f),
            );
        range =
            λ z.
            let f = price_passes z in
            rw (ap (λ (w : Outcome Answer ℕ). w.left) (priced f)) (total_range (feasible_judged t m f));
        fills =
            λ z p low high.
            let j : Judged t m = feasible_judged t m (price_passes z) in
            let within = within_limit_lem j p low high in
            (fill_most _ _ within, fill_full _ _ within j.tree.sound.limit_low);
        refuses = entry_kept _ _ 0 judging (given_zero plain_rules t m);
        weight = judge_weight t m;
      }

-- ---- The saving

-- the price of the plan that a planner left
left_price : (steps : ℕ → Chain → List ℕ) (t m s : List ℕ)
    → (AcceptedFacts t → Judged t (steps (limit_of t) (tree_of t))) → (planned steps t m s).answer.number ≡ 0
    → (price_plan t (planned steps t m s).left.marks).left ≡ total_cents t (steps (limit_of t) (tree_of t))
left_price steps t m s good z =
    let passed = plan_passes steps t m s z in
    ap (λ (p : Outcome Answer PlanBuffers). (price_plan t p.left.marks).left) (planned_done steps t m s passed)
    ∙ ((price_promise t _).accepts (made_feasible steps t m s good passed)).1

module _ (t m s : List ℕ) where
  pub saving_promise : SavingPromise t m s (save_best t m s).answer (save_best t m s).left.saving
      (save_best t m s).left.best.marks (save_best t m s).left.best.scratch
  unfolding save_best saving_of
  saving_promise =
      record {
        plan = best_plan_lem t m s;
        best = best_promise t m s;
        saving =
            λ z lent words y.
            rw (
              saved_done t m s (plan_passes best_marks t m s z),
              left_price single_marks t lent words single_judged y,
              left_price best_marks t m s best_judged z,
            )
            (less_is _ _);
        refuses = λ h. saved_refused t m s (plan_fails best_marks t m s best_judged h);
      }
