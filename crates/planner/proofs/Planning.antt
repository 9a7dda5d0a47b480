-- What all planners share: the refusals, what is left where there is none and where there is one, and the promises of
-- what is left. Assumes nothing.
use Prim.Native.Nat.{ℕ, ◌+◌, ◌*◌, ◌≤◌, ◌<◌}
use native.Mathlib.Omega.{arith}
use native.Mathlib.Nat.{mul-le-mul}
use mathlib.Core.Path.{◌≡◌, refl, sym, ◌∙◌, ap}
use mathlib.Core.Bool.{true}
use mathlib.Core.List.{List}
use lib.ListN.{length, replicate}
use Rattle.std.proofs.Common.{ltb, le-ltb, lt-ltb}
use Rattle.model.specs.Basics.{at_place}
use Rattle.model.specs.Table.{max_nodes, max_limit, node_count, limit_of, tree_of}
use Rattle.model.specs.Plan.{verdict_of}
use Rattle.model.specs.Refusals.{Answer, answer_of, refused, accepted, refusal_answer, bad_marks, short_scratch}
use Rattle.model.specs.Refusals.{scratch_words, tree_checks, lent_checks, plan_checks, passes, accepted_tree, first_of, read_tree}
use Rattle.model.specs.Refusals.{PlanBuffers, plan_left, planned, plan_best}
use Rattle.model.specs.Demand.{PlanPromise, BestPromise, QuickPromise}
use Rattle.model.specs.declared.Refusal.{Refusal}
use Rattle.theory.specs.Ranges.{when_true, when_false}
use Rattle.theory.specs.TableFacts.{accepted_facts}
use Rattle.theory.specs.Checks.{plan_never, accepted_pass, refused_fails, first_of_pass, first_of_stop}
use Rattle.theory.specs.Entries.{promised, unequal, equal}
use Rattle.theory.specs.PlanFeasible.{Judged}
use Rattle.theory.specs.JudgeAnswers.{tree_accepted}
use Rattle.theory.specs.PromisePlanner.{passes_lent, planned_done, planned_refused, plan_promise, best_promise}
use Rattle.theory.specs.Refused.{refusal_number}
use Rattle.theory.proofs.PromisePlanner.{quick_promise}
use Rattle.planner.specs.declared.Planner.{Planner}
use Rattle.planner.specs.Planners.{steps_of, PlanReady, steps_judged}

-- ---- The refusals

-- the number of words fits
pub words_fit : (n k : ℕ) → n ≤ max_nodes → k ≤ max_limit → scratch_words n k ≤ scratch_words max_nodes max_limit
words_fit n k a b =
    mul-le-mul {n₁ = 4 * n} {m₁ = k + 3} {n₂ = 4 * max_nodes} {m₂ = max_limit + 3} (omega arith) (omega arith)

module _ (t m s : List ℕ) where
  abbrev told : Answer
  told = first_of (plan_checks t m s) accepted

  -- a refusal of the tree stands
  pub tree_refuses : (r : Refusal) → refusal_answer r ≡ read_tree t → refusal_answer r ≡ told
  unfolding read_tree plan_checks
  tree_refuses r e =
      e
      ∙ sym
      (first_of_stop (tree_checks true t) (lent_checks t m s) accepted accepted
      (refused_fails (tree_checks true t) accepted refl
      (λ z. refusal_number r (ap (λ (a : Answer). a.number) e ∙ z))))

  module _ (tree : accepted ≡ read_tree t) where
    -- else what is lent is checked
    goes_on : told ≡ first_of (lent_checks t m s) accepted
    unfolding plan_checks accepted_tree
    goes_on =
        first_of_pass (tree_checks true t) (lent_checks t m s) accepted
        (tree_accepted t (sym (ap (λ (a : Answer). a.number) tree)))

    pub marks_refuse : (length m ≡ node_count t → ⊥) → refused 8 (node_count t) ≡ told
    unfolding lent_checks bad_marks first_of at_place
    marks_refuse other = rw goes_on (rw (unequal (length m) (node_count t) other) refl)

    pub scratch_refuses : length m ≡ node_count t → length s < scratch_words (node_count t) (limit_of t)
        → refused 9 (scratch_words (node_count t) (limit_of t)) ≡ told
    unfolding lent_checks bad_marks short_scratch first_of at_place
    scratch_refuses long short =
        let words : ℕ = scratch_words (node_count t) (limit_of t) in
        rw goes_on (rw (equal (length m) (node_count t) long)
        (rw (when_true (ltb (length s) words) words (lt-ltb (length s) words short)) refl))

    pub nothing_refuses : length m ≡ node_count t → scratch_words (node_count t) (limit_of t) ≤ length s
        → accepted ≡ told
    unfolding lent_checks bad_marks short_scratch first_of at_place
    nothing_refuses long enough =
        let words : ℕ = scratch_words (node_count t) (limit_of t) in
        rw goes_on (rw (equal (length m) (node_count t) long)
        (rw (when_false (ltb (length s) words) words (le-ltb (length s) words enough)) refl))

pub ruleset checking = (tree_refuses, marks_refuse, scratch_refuses, nothing_refuses)

-- ---- What is left, where the checks are those of the list

module _ (t m s : List ℕ) where
  checks_pass : accepted ≡ told t m s → passes (plan_checks t m s) ≡ true
  checks_pass e =
      accepted_pass (plan_checks t m s) accepted (plan_never t m s) (sym (ap (λ (a : Answer). a.number) e))

  -- nothing is refused
  pub plan_ready : accepted ≡ told t m s → PlanReady t m s
  plan_ready e =
      let ready = passes_lent t m s (checks_pass e) in
      record { marks_long = ready.marks; words = ready.scratch }

  module _ (p : Planner) where
    abbrev made : List ℕ
    made = steps_of p (limit_of t) (tree_of t)

    -- a refusal is the planner's
    pub refused_plan : (r : Refusal) → refusal_answer r ≡ told t m s
        → plan_left (refusal_answer r) m s ≡ planned (steps_of p) t m s
    refused_plan r e =
        ap (λ (a : Answer). plan_left a m s) e
        ∙ sym
        (planned_refused (steps_of p) t m s
        (refused_fails (plan_checks t m s) accepted refl
        (λ z. refusal_number r (ap (λ (a : Answer). a.number) e ∙ z))))

    module _ (e : accepted ≡ told t m s) where
      -- the plan is feasible
      pub made_judged : Judged t made
      made_judged = steps_judged p (accepted_facts t (passes_lent t m s (checks_pass e)).tree)

      -- with the judge's verdict it is the planner's
      pub judged_plan : (r : Answer) (m' s' : List ℕ) → m' ≡ made → s' ≡ replicate (length s) 0
          → r ≡ answer_of (verdict_of t m') → plan_left r m' s' ≡ planned (steps_of p) t m s
      judged_plan r m' s' f g h =
          rw (h, f, g) (sym (planned_done (steps_of p) t m s (checks_pass e)))

pub ruleset planning = (refused_plan, made_judged, judged_plan)

-- ---- The promises, of what is left

module _ (t m s m' s' : List ℕ) (r : Answer) where
  module _ (p : Planner) (is : plan_left r m' s' ≡ planned (steps_of p) t m s) where
    pub plan_promised : PlanPromise t m s r m' s'
    plan_promised =
        (promised (λ (r : Answer) (x : PlanBuffers). PlanPromise t m s r x.marks x.scratch)
        (plan_promise (steps_of p) t m s (steps_judged p)) is).1

    pub quick_promised : QuickPromise t r
    quick_promised =
        (promised (λ (r : Answer) (x : PlanBuffers). QuickPromise t r)
        (quick_promise (steps_of p) t m s (steps_judged p)) is).1

  -- demand 3, of what the best planner leaves
  pub best_promised : plan_left r m' s' ≡ plan_best t m s → BestPromise t m s r m'
  best_promised is =
      (promised (λ (r : Answer) (x : PlanBuffers). BestPromise t m s r x.marks) (best_promise t m s) is).1
