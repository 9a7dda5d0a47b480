-- What the planners' entries promise beside their equations, from the answer and what is left: each accepts, with a
-- feasible plan (plan_promise, best_plan_lem), the best planner's plan is the lowest there is (best_promise), and so not
-- above any feasible plan (best_not_above).
-- Proves lent_passes, passes_lent (right buffers are checks that pass), planned_done, planned_refused (what a planner
-- leaves), plan_passes, plan_fails (a planner answers 0 where it was lent an accepted tree and right buffers, and else
-- not), planned_again (one planner after the other). Assumes nothing.
use Prim.Native.Nat.{ℕ, ◌≤◌}
use Rattle.std.specs.Prelude.{◌≡◌, false, List, length, replicate}
use Rattle.std.proofs.Common.{sym, ap, ◌∙◌, arith}
use Rattle.std.proofs.Math.Bool.{true, not}
use Rattle.std.proofs.lemmas.List.{length-replicate}
use borrow.Author.Tests.{eqb-true, eq-eqb, ltb-false, le-ltb, not-false}
use Rattle.model.specs.Table.{Chain, node_count, limit_of, tree_of}
use Rattle.model.specs.Plan.{page_count, page_weight, verdict_of}
use Rattle.model.specs.Runs.{runs_of}
use Rattle.model.specs.Steps.{best_marks}
use Rattle.model.specs.Refusals.{bad_marks, short_scratch, scratch_words, tree_checks, lent_checks, plan_checks, passes}
use Rattle.model.specs.Refusals.{accepted_tree, feasible_plan, answer_of, accepted, first_of, Outcome, checked}
use Rattle.model.specs.Refusals.{PlanBuffers, plan_left, planned, plan_best}
use Rattle.model.specs.Demand.{Lowest, WeightPromise, PlanLent, PlanPromise, BestPromise}
use Rattle.model.specs.Refusals.{Answer}
use Rattle.std.specs.declared.option.Option.TheVariants.{Some}
use Rattle.model.specs.declared.Verdict.TheVariants.{Feasible}
use Rattle.theory.specs.Ranges.{when_false, when_nowhere}
use Rattle.theory.specs.Checks.{Pass, pass_all, passes_both, both_pass, plan_never, lent_plain}
use Rattle.theory.specs.Entries.{entry_done, entry_refused, entry_passed, entry_fails, entry_kept}
use Rattle.theory.specs.TableFacts.{AcceptedFacts, accepted_facts}
use Rattle.theory.specs.PlanFeasible.{Judged, feasible_judged, judged_feasible, judged_verdict, judged_zero}
use Rattle.theory.specs.PromiseWeight.{tree_weight}
use Rattle.theory.specs.BestLowest.{best_judged, best_least_plan, best_lowest}

-- ---- What is lent

module _ (t m s : List ℕ) where
  plan_parts : passes (plan_checks t m s) ≡ true → (accepted_tree t ≡ true) × (passes (lent_checks t m s) ≡ true)
  unfolding plan_checks accepted_tree
  plan_parts e = passes_both (tree_checks true t) (lent_checks t m s) e

  pub lent_passes : PlanLent t m s → passes (plan_checks t m s) ≡ true
  unfolding Pass plan_checks lent_checks bad_marks short_scratch accepted_tree
  lent_passes r =
      both_pass (tree_checks true t) (lent_checks t m s) r.tree
      ((pass_all (lent_checks t m s)).1 (
        when_false _ (node_count t) (ap not (eq-eqb (length m) (node_count t) r.marks)),
        (when_false _ words (le-ltb (length s) words r.scratch), tt),
      ))
    where
      words : ℕ
      words = scratch_words (node_count t) (limit_of t)

  pub passes_lent : passes (plan_checks t m s) ≡ true → PlanLent t m s
  unfolding Pass lent_checks bad_marks short_scratch
  passes_lent e =
      let parts = plan_parts e in
      let p = (pass_all (lent_checks t m s)).0 parts.1 in
      record {
        tree = parts.0;
        marks = eqb-true (length m) (node_count t) (not-false _ (when_nowhere _ (node_count t) p.0));
        scratch =
            ltb-false (length s) (scratch_words (node_count t) (limit_of t))
            (when_nowhere _ (scratch_words (node_count t) (limit_of t)) p.1.0);
      }

-- ---- What a planner leaves

module _ (steps : ℕ → Chain → List ℕ) (t m s : List ℕ) where
  abbrev made : List ℕ
  made = steps (limit_of t) (tree_of t)

  pub planned_done : passes (plan_checks t m s) ≡ true
      → planned steps t m s ≡ plan_left (answer_of (verdict_of t made)) made (replicate (length s) 0)
  unfolding planned
  planned_done e = entry_done _ _ _ (plan_checks t m s) e

  pub planned_refused : passes (plan_checks t m s) ≡ false
      → planned steps t m s ≡ plan_left (first_of (plan_checks t m s) accepted) m s
  unfolding planned
  planned_refused e = entry_refused _ _ _ (plan_checks t m s) accepted e

  -- a planner that answers 0 was lent an accepted tree and right buffers
  pub plan_passes : (planned steps t m s).answer.number ≡ 0 → passes (plan_checks t m s) ≡ true
  unfolding planned
  plan_passes z = entry_passed _ _ _ (plan_checks t m s) (plan_never t m s) z

  -- ---- Steps whose plan of an accepted tree is feasible

  module _ (good : AcceptedFacts t → Judged t made) where
    pub made_judged : passes (plan_checks t m s) ≡ true → Judged t made
    made_judged e = good (accepted_facts t (plan_parts t m s e).0)

    pub made_feasible : passes (plan_checks t m s) ≡ true → feasible_plan t made ≡ true
    made_feasible e = judged_feasible (plan_parts t m s e).0 (made_judged e)

    done_answer : passes (plan_checks t m s) ≡ true
        → (planned steps t m s).answer ≡ answer_of (Feasible (page_count t made) (page_weight t made 1))
    done_answer e =
        ap (λ (p : Outcome Answer PlanBuffers). p.answer) (planned_done e)
        ∙ ap answer_of (judged_verdict (made_judged e))

    made_zero : passes (plan_checks t m s) ≡ true → (answer_of (verdict_of t made)).number ≡ 0
    made_zero e = judged_zero (made_judged e)

    -- one that does not was not
    pub plan_fails : ((planned steps t m s).answer.number ≡ 0 → ⊥) → passes (plan_checks t m s) ≡ false
    unfolding planned
    plan_fails h = entry_fails _ _ _ (plan_checks t m s) made_zero h

    left_kept : ((planned steps t m s).answer.number ≡ 0 → ⊥)
        → (planned steps t m s).left ≡ record { marks = m; scratch = s }
    unfolding planned
    left_kept h = entry_kept _ _ _ (plan_checks t m s) made_zero h

    plan_weight : WeightPromise t (planned steps t m s).answer
    unfolding planned checked plan_checks
    plan_weight = tree_weight t (lent_checks t m s) (verdict_of t made) (lent_plain t m s)

    pub plan_promise : PlanPromise t m s (planned steps t m s).answer (planned steps t m s).left.marks
        (planned steps t m s).left.scratch
    plan_promise =
        record {
          accepts =
              λ r.
              let e = lent_passes t m s r in
              rw (planned_done e) (ap answer_of (judged_verdict (made_judged e)), made_feasible e);
          kept =
              λ h. (
                ap (λ (b : PlanBuffers). b.marks) (left_kept h),
                ap (λ (b : PlanBuffers). b.scratch) (left_kept h),
              );
          weight = plan_weight;
        }

-- ---- One planner after the other

module _ (steps : ℕ → Chain → List ℕ) (t m s : List ℕ) (good : AcceptedFacts t → Judged t (steps (limit_of t) (tree_of t)))
    (e : passes (plan_checks t m s) ≡ true) where
  -- a planner leaves what another is to be lent
  left_lent : PlanLent t (steps (limit_of t) (tree_of t)) (replicate (length s) 0)
  left_lent =
      let lent = passes_lent t m s e in
      record {
        tree = lent.tree;
        marks = (made_judged steps t m s good e).long;
        scratch = omega (arith, lent.scratch, length-replicate {A = ℕ} (length s) 0);
      }

  -- which goes on as if it had been lent the same
  pub planned_again : (next : ℕ → Chain → List ℕ)
      → planned next t (planned steps t m s).left.marks (planned steps t m s).left.scratch ≡ planned next t m s
  planned_again next =
      ap (λ (p : Outcome Answer PlanBuffers). planned next t p.left.marks p.left.scratch)
      (planned_done steps t m s e)
      ∙ (rw (length-replicate {A = ℕ} (length s) 0) at
      (planned_done next t (steps (limit_of t) (tree_of t)) (replicate (length s) 0) (lent_passes t _ _ left_lent)))
      ∙ sym (planned_done next t m s e)

-- ---- The best planner

module _ (t m s : List ℕ) where
  best_low : PlanLent t m s
      → (P : ℕ) × (W : ℕ) × ((plan_best t m s).answer ≡ answer_of (Feasible P W))
      × Lowest t P W (runs_of t (plan_best t m s).left.marks)
  best_low r =
      let a : AcceptedFacts t = accepted_facts t r.tree in
      let done = planned_done best_marks t m s (lent_passes t m s r) in (
        _,
        _,
        ap (λ (p : Outcome Answer PlanBuffers). p.answer) done ∙ ap answer_of (judged_verdict (best_judged a)),
        rw (ap (λ (p : Outcome Answer PlanBuffers). p.left.marks) done) (best_lowest a),
      )

  pub best_promise : BestPromise t m s (plan_best t m s).answer (plan_best t m s).left.marks
  best_promise = record { lowest = best_low }

  pub best_plan_lem : PlanPromise t m s (plan_best t m s).answer (plan_best t m s).left.marks
      (plan_best t m s).left.scratch
  best_plan_lem = plan_promise best_marks t m s best_judged

  -- where it answers 0 it was lent what it is to be lent
  pub best_lent : (plan_best t m s).answer.number ≡ 0 → PlanLent t m s
  best_lent z = passes_lent t m s (plan_passes best_marks t m s z)

-- ---- No feasible plan is below best's

-- the figures of a planner that accepts are those of its plan
pub plan_figures : (steps : ℕ → Chain → List ℕ) (t m s : List ℕ)
    (good : AcceptedFacts t → Judged t (steps (limit_of t) (tree_of t))) (P W : ℕ)
    → (planned steps t m s).answer ≡ answer_of (Feasible P W)
    → (P ≡ page_count t (steps (limit_of t) (tree_of t))) × (W ≡ page_weight t (steps (limit_of t) (tree_of t)) 1)
    × (feasible_plan t (steps (limit_of t) (tree_of t)) ≡ true)
plan_figures steps t m s good P W e =
    let passed = plan_passes steps t m s (ap (λ (a : Answer). a.number) e) in
    let made : List ℕ = steps (limit_of t) (tree_of t) in
    let same : Some (Feasible P W) ≡ Some (Feasible (page_count t made) (page_weight t made 1)) =
    ap (λ (a : Answer). a.beside) (sym e ∙ done_answer steps t m s good passed) in
    (cc, cc, made_feasible steps t m s good passed)

-- one law for whichever feasible plan
pub best_not_above : (t n m s : List ℕ) (bestP bestW : ℕ) → feasible_plan t n ≡ true
    → (plan_best t m s).answer ≡ answer_of (Feasible bestP bestW)
    → (bestP ≤ page_count t n) × (bestP ≡ page_count t n → bestW ≤ page_weight t n 1)
best_not_above t n m s bestP bestW f e =
    let j : Judged t n = feasible_judged t n f in
    let best = plan_figures best_marks t m s best_judged bestP bestW e in
    let least = best_least_plan j.tree n j in
    (omega (arith, best.0, least.0), λ q. omega (arith, best.1, least.1 (sym q ∙ best.0)))
