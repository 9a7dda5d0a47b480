-- Plans and sequences of sibling runs are the same, order apart (held, heavy, plan_of), and the verdict's figures are
-- those of the plan's runs (held). Assumes nothing.
use Rattle.std.specs.Prelude.{ℕ, false, ◌≡◌, List, [], ◌∷◌, length}
use native.Mathlib.Omega.{arith}
use Rattle.std.proofs.Math.Bool.{true}
use Rattle.std.proofs.Common.{true≢false, ◌∙◌, ap₂}
use Rattle.std.proofs.Math.Path.{refl, sym, ap}
use Rattle.std.proofs.Math.Logic.{⊎_elim}
use Rattle.model.specs.Basics.{every}
use Rattle.model.specs.Table.{node_count}
use Rattle.model.specs.Plan.{bad_mark, heavy_page, page_count, page_weight, verdict_of}
use Rattle.model.specs.Runs.{Run, holds, within_limit, runs_of}
use Rattle.model.specs.Refusals.{short_table, bad_count, bad_limit, bad_length, no_label, bad_walk, heavy_node, bad_marks}
use Rattle.model.specs.Refusals.{asked}
use Rattle.model.specs.Refusals.{mark_refused, page_refused, head_checks, node_checks, weight_checks, form_checks, tree_checks}
use Rattle.model.specs.Refusals.{found_checks, mark_checks, judge_checks, accepted_tree, feasible_plan, answer_of}
use Rattle.model.specs.Refusals.{plain_rules, first_of, judge_plan}
use Rattle.model.specs.Demand.{HeldExactly, PlanOf}
use Rattle.model.specs.Refusals.{Answer}
use Rattle.model.specs.declared.Cause.TheVariants.{BadMark, HeavyPage}
use Rattle.std.specs.declared.option.Option.TheVariants.{None}
use Rattle.model.specs.declared.Verdict.{Verdict}
use Rattle.model.specs.declared.Verdict.TheVariants.{Feasible, Failed}
use Rattle.theory.specs.Bools.{never_true}
use Rattle.theory.specs.Ranges.{place_cases, at_place_at, at_place_nowhere}
use Rattle.theory.specs.Checks.{Pass, pass_all, Never, never_first, first_of_append}
use Rattle.theory.specs.TableFacts.{AcceptedFacts, passed_facts, accepted_facts}
use Rattle.theory.specs.JudgeAnswers.{judge_verdict}
use Rattle.theory.specs.PlanFeasible.{Judged, feasible_judged, judged_feasible, feasible_judge}
use Rattle.theory.specs.JudgedEntries.{judge_passes}
use Rattle.theory.specs.RunsSame.{apart_same}
use Rattle.theory.specs.RunsHeld.{PlanRuns, plan_runs, RunsPlan, runs_plan}

-- ---- The runs of a plan

module _ (t m : List ℕ) where
  pub held : (judge_plan t m).number ≡ 0
      → (P : ℕ) × (W : ℕ) × (judge_plan t m ≡ answer_of (Feasible P W)) × HeldExactly t P W (runs_of t m)
  unfolding judge_plan feasible_plan
  held z =
      let f : feasible_plan t m ≡ true = judge_passes plain_rules t m z in
      let j : Judged t m = feasible_judged t m f in
      let runs : PlanRuns t m = plan_runs j.tree.sound m j.marked in (
        page_count t m,
        page_weight t m 1,
        feasible_judge t m f,
        record {
          held = runs.held;
          within = runs.limit.1 j.light;
          count = runs.count;
          root = runs.root;
        },
      )

  -- 11 comes after all of the tree's checks, 8 and 10
  tree_eleven : Never 11 (tree_checks true t)
  unfolding every tree_checks form_checks head_checks node_checks weight_checks short_table bad_count bad_limit bad_length asked
      no_label bad_walk heavy_node
  tree_eleven p = refl

  before_eleven : Never 11 (bad_marks (node_count t) m ∷ mark_refused t m ∷ [])
  unfolding every bad_marks mark_refused
  before_eleven p = refl

  -- a plan in which nothing is found has 0
  judged_number : bad_mark t m ≡ None → heavy_page t m ≡ None → (answer_of (verdict_of t m)).number ≡ 0
  unfolding verdict_of
  judged_number good none =
      ap (λ (v : Verdict). (answer_of v).number)
      (at_place_nowhere (bad_mark t m) (λ v. Failed (BadMark v)) _ good
      ∙ at_place_nowhere (heavy_page t m) (λ p. Failed (HeavyPage p)) _ none)

  -- so where it is given, the tree is accepted, no mark is bad, and a page is heavy
  found_heavy : (judge_plan t m).number ≡ 11
      → AcceptedFacts t × (bad_mark t m ≡ None) × (heavy_page t m ≡ None → ⊥)
  unfolding judge_plan judge_checks mark_checks found_checks first_of Pass mark_refused page_refused
  found_heavy e =
      let given : Answer = answer_of (verdict_of t m) in
      let tree =
      never_first 11 (tree_checks true t) (first_of (mark_checks t m) given) tree_eleven
      (sym (ap (λ (r : Answer). r.number) (first_of_append (tree_checks true t) (mark_checks t m) given)) ∙ e) in
      let marks =
      never_first 11 (bad_marks (node_count t) m ∷ mark_refused t m ∷ []) (first_of (page_refused t m ∷ []) given)
      before_eleven tree.1 in
      let good : bad_mark t m ≡ None =
      ((pass_all (bad_marks (node_count t) m ∷ mark_refused t m ∷ [])).0 marks.0).1.0 in (
        passed_facts true t tree.0,
        good,
        λ none.
            omega (
              arith,
              marks.1,
              ap (λ (r : Answer). r.number)
                  (at_place_nowhere (heavy_page t m) (λ p. answer_of (Failed (HeavyPage p))) given none),
              judged_number good none,
            ),
      )

  pub heavy : (judge_plan t m).number ≡ 11 → (holds t (runs_of t m) ≡ true) × (within_limit t (runs_of t m) ≡ false)
  heavy e =
      let found = found_heavy e in
      let runs : PlanRuns t m = plan_runs found.0.sound m found.1 in
      (runs.held, never_true (within_limit t (runs_of t m)) (λ w. found.2 (runs.limit.0 w)))

-- ---- The plan of a sequence

module _ (t : List ℕ) (tree : accepted_tree t ≡ true) where
  abbrev facts : AcceptedFacts t
  facts = accepted_facts t tree

  module _ (n : List ℕ) (long : length n ≡ node_count t) where
    verdict : judge_plan t n ≡ answer_of (verdict_of t n)
    unfolding judge_plan accepted_tree
    verdict = sym (judge_verdict plain_rules t n tree long)

    -- a bad mark is answered with 10
    marked : ((judge_plan t n).number ≡ 10 → ⊥) → bad_mark t n ≡ None
    unfolding verdict_of
    marked other =
        ⊎_elim
        (λ x. absurd (other (ap (λ (r : Answer). r.number)
        (verdict ∙ ap answer_of (at_place_at (bad_mark t n) x.0 (λ v. Failed (BadMark v)) _ x.1)))))
        (λ none. none) (place_cases (bad_mark t n))

    -- and a heavy page with 11, where no mark is bad
    heavier : bad_mark t n ≡ None → (heavy_page t n ≡ None → ⊥) → (judge_plan t n).number ≡ 11
    unfolding verdict_of
    heavier good other =
        ⊎_elim
        (λ x. ap (λ (r : Answer). r.number)
        (verdict
        ∙ ap answer_of
        (at_place_nowhere (bad_mark t n) _ _ good
        ∙ at_place_at (heavy_page t n) x.0 (λ p. Failed (HeavyPage p)) _ x.1)))
        (λ none. absurd (other none)) (place_cases (heavy_page t n))

  pub plan_of : (qs : List Run) → holds t qs ≡ true → PlanOf t qs
  plan_of qs h =
      let p : RunsPlan t qs = runs_plan facts.sound qs h in
      record {
        marks = p.marks;
        runs = p.times;
        only = λ n long other apart. p.only n long (marked n long other) (apart_same (runs_of t n) qs apart);
        within =
            λ w.
            let j : Judged t p.marks =
            record { tree = facts; long = p.long; marked = p.good; light = p.limit.1 w } in
            feasible_judge t p.marks (judged_feasible tree j)
            ∙ ap₂ (λ (x y : ℕ). answer_of (Feasible x y)) p.count p.root;
        heavy = λ w. heavier p.marks p.long p.good (λ none. true≢false (sym (p.limit.0 none) ∙ w));
      }
