-- Plans and sequences of sibling runs say the same, both ways, for a table of sound form; and refusal 7 is exact: a
-- table of sound form is refused for weight just where no sequence of runs holds its tree within the page limit.
-- Defines PlanRuns, RunsPlan. Proves plan_runs, runs_plan, held_light, accepted_held, refused_unheld, seven_refused.
-- Assumes nothing.
use Rattle.std.specs.Prelude.{ℕ, ◌-◌, ◌≤◌, Bool, not, ◌&&◌, ◌≡◌, refl, ◌↔◌, length, get_or, replicate}
use native.Mathlib.Omega.{arith}
use Rattle.std.proofs.Math.Bool.{true, false}
use Rattle.std.proofs.Common.{true≢false, ◌∙◌}
use Rattle.std.proofs.lemmas.Bool.{false≢true}
use Rattle.std.proofs.Math.Path.{sym, ap}
use mathlib.Core.List.{List}
use Rattle.std.proofs.lemmas.List.{get_or-replicate}
use Rattle.std.proofs.Math.Dec.{eqb, leb, ltb}
use borrow.Author.Tests.{eqb-true, eqb-false, eq-eqb, ne_eqb, leb-true, le-ltb, not-true}
use Rattle.model.specs.Basics.{pick, count_to}
use Rattle.model.specs.Table.{node_count, limit_of, weight_at}
use Rattle.model.specs.Plan.{begins, continues, mark_at, has_mark, good_mark, bad_mark, page_of, page_count, page_weight}
use Rattle.model.specs.Plan.{heavy_page}
use Rattle.model.specs.Runs.{Run, OrderApart, holds, home_of, run_weight, within_limit, run_count, root_weight, runs_of}
use Rattle.model.specs.Refusals.{form_checks, weight_checks, tree_checks, passes, sound_form, accepted_tree}
use Rattle.model.specs.Refusals.{refused_for_weight}
use Rattle.model.specs.Refusals.{first_of, accepted, read_tree}
use Rattle.model.specs.Demand.{HeldWithin}
use Rattle.std.specs.declared.option.Option.TheVariants.{None}
use Rattle.model.specs.Refusals.{Answer}
use Rattle.theory.specs.Ranges.{Upto, pick_true, pick_false, sum_to_cong, count_to_le, count_to_all, first_to_none}
use Rattle.theory.specs.Sums.{sum_to_only, sum_to_one}
use Rattle.theory.specs.TableFacts.{SoundFacts, sound_facts, accepted_facts, sound_accepted}
use Rattle.theory.specs.Bools.{both_true}
use Rattle.theory.specs.Checks.{passes_append, first_of_pass, first_of_stop, first_of_all, never_first, form_plain}
use Rattle.theory.specs.Checks.{weight_seven}
use Rattle.theory.specs.PlanPages.{bad_none, good_first, good_later, page_of_begins}
use Rattle.theory.specs.Lists.{every_all}
use Rattle.theory.specs.RunsFacts.{HoldFacts, holds_facts, home_first}
use Rattle.theory.specs.RunsMarked.{length-runs_of}
use Rattle.theory.specs.RunsSame.{SameRuns, same_home, same_weight, same_root, same_limit, same_length}
use Rattle.theory.specs.RunsSame.{same_times}
use Rattle.theory.specs.RunsOfPlan.{runs_facts, runs_hold, root_weight_lem, within_heavy}
use Rattle.theory.specs.RunsToPlan.{marks_of, marks_length, marks_good, runs_of_marks, one_plan}

-- ---- The runs of a plan

-- they hold the tree with as many pages and the same root weight, within the limit exactly where no page is heavy
pub record PlanRuns (t m : List ℕ) : Type 0 where
  pub held : holds t (runs_of t m) ≡ true
  pub count : run_count (runs_of t m) ≡ page_count t m
  pub root : root_weight t (runs_of t m) ≡ page_weight t m 1
  pub limit : (within_limit t (runs_of t m) ≡ true) ↔ (heavy_page t m ≡ None)

pub plan_runs : {t : List ℕ} → SoundFacts t → (m : List ℕ) → bad_mark t m ≡ None → PlanRuns t m
plan_runs {t} s m good =
    record {
      held = runs_hold s m good;
      count = length-runs_of t m;
      root = root_weight_lem s m good;
      limit = within_heavy s m good;
    }

-- ---- The plan of a sequence

-- the one plan with the runs of a sequence, each as often: as many pages, the same homes and weights, no heavy page
-- exactly where the sequence is within the limit
pub record RunsPlan (t : List ℕ) (rs : List Run) : Type 0 where
  pub marks : List ℕ
  pub long : length marks ≡ node_count t
  pub good : bad_mark t marks ≡ None
  pub runs : SameRuns (runs_of t marks) rs
  pub times : OrderApart (runs_of t marks) rs
  pub only : (m : List ℕ) → length m ≡ node_count t → bad_mark t m ≡ None → SameRuns (runs_of t m) rs → m ≡ marks
  pub count : page_count t marks ≡ run_count rs
  pub home : (v : ℕ) → home_of t (runs_of t marks) v ≡ home_of t rs v
  pub weight : (r : Run) → run_weight t (runs_of t marks) r ≡ run_weight t rs r
  pub root : page_weight t marks 1 ≡ root_weight t rs
  pub limit : (heavy_page t marks ≡ None) ↔ (within_limit t rs ≡ true)

pub runs_plan : {t : List ℕ} → SoundFacts t → (rs : List Run) → holds t rs ≡ true → RunsPlan t rs
runs_plan {t} s rs e =
    record {
      marks = m;
      long = marks_length t rs;
      good = good;
      runs = same;
      times = same_times s (runs_of t m) rs (runs_facts s m good) h same;
      only = λ m' long' good' same'. one_plan s m' good' rs long' same';
      count = sym (length-runs_of t m) ∙ same_length s (runs_of t m) rs (runs_facts s m good) h same;
      home = same_home s (runs_of t m) rs (runs_facts s m good) same;
      weight = same_weight s (runs_of t m) rs (runs_facts s m good) same;
      root = sym (root_weight_lem s m good) ∙ same_root s (runs_of t m) rs (runs_facts s m good) same;
      limit = (λ q. sym within ∙ (within_heavy s m good).1 q, λ q. (within_heavy s m good).0 (within ∙ q));
    }
  where
    h : HoldFacts t rs
    h = holds_facts t rs e

    m : List ℕ
    m = marks_of t rs

    good : bad_mark t m ≡ None
    good = marks_good s rs h

    same : SameRuns (runs_of t m) rs
    same = runs_of_marks s rs h

    within : within_limit t (runs_of t m) ≡ within_limit t rs
    within = same_limit s (runs_of t m) rs (runs_facts s m good) same

-- ---- Every node its own run

ones : ℕ → List ℕ
ones n = replicate n 1

module _ {t : List ℕ} (s : SoundFacts t) where
  ones_begin : (v : ℕ) → 1 ≤ v → v ≤ node_count t → has_mark (ones (node_count t)) begins v ≡ true
  unfolding ones mark_at
  ones_begin v low high =
      eq-eqb (get_or (replicate (node_count t) 1) (v - 1) 0) 1 (get_or-replicate (node_count t) (v - 1) 1 0 (omega arith))

  ones_good : bad_mark t (ones (node_count t)) ≡ None
  ones_good = (bad_none t (ones (node_count t))).1 (λ v low high. go v low high (eqb v 1) refl)
    where
      go : (v : ℕ) → 1 ≤ v → v ≤ node_count t → (b : Bool) → eqb v 1 ≡ b → good_mark t (ones (node_count t)) v ≡ true
      go v low high true q =
          let one : v ≡ 1 = eqb-true v 1 q in
          ap (good_mark t (ones (node_count t))) one ∙ good_first t (ones (node_count t)) ∙ ones_begin 1 (omega arith)
          s.count_low
      go v low high false q =
          let other : v ≡ 1 → ⊥ = eqb-false v 1 q in
          let one : mark_at (ones (node_count t)) v ≡ 1 =
          eqb-true (mark_at (ones (node_count t)) v) 1 (ones_begin v low high) in
          good_later t (ones (node_count t)) v (omega (arith, other))
          ∙ pick_false (has_mark (ones (node_count t)) continues v) _ _ (ne_eqb (mark_at (ones (node_count t)) v) 2
          (λ z. omega arith))
          ∙ rw (ne_eqb (mark_at (ones (node_count t)) v) 0 (λ z. omega arith)) (ones_begin v low high)

  ones_page : (v : ℕ) → 1 ≤ v → v ≤ node_count t → page_of t (ones (node_count t)) v ≡ v
  ones_page v low high =
      page_of_begins t (ones (node_count t)) v low (ones_begin v low high)
      ∙ count_to_all v (has_mark (ones (node_count t)) begins) (λ u low' high'. ones_begin u low' (omega arith))

  ones_weight : (p : ℕ) → 1 ≤ p → p ≤ node_count t → page_weight t (ones (node_count t)) p ≡ weight_at t p
  unfolding page_weight
  ones_weight p low high =
      sum_to_cong (node_count t) (λ v. pick (eqb (page_of t (ones (node_count t)) v) p) (weight_at t v) 0)
      (λ v. pick (eqb p v) (weight_at t p) 0)
      (λ v low' high'. ap (λ k. pick (eqb k p) (weight_at t v) 0) (ones_page v low' high') ∙ swap v (eqb v p) refl)
      ∙ sum_to_only (node_count t) p (weight_at t p) low high
    where
      swap : (v : ℕ) (b : Bool) → eqb v p ≡ b → pick (eqb v p) (weight_at t v) 0 ≡ pick (eqb p v) (weight_at t p) 0
      swap v true q =
          let same : v ≡ p = eqb-true v p q in
          pick_true (eqb v p) (weight_at t v) 0 q
          ∙ ap (weight_at t) same
          ∙ sym (pick_true (eqb p v) (weight_at t p) 0 (eq-eqb p v (sym same)))
      swap v false q =
          pick_false (eqb v p) (weight_at t v) 0 q
          ∙ sym (pick_false (eqb p v) (weight_at t p) 0 (ne_eqb p v (λ e. eqb-false v p q (sym e))))

  ones_light : Upto (node_count t) (λ v. weight_at t v ≤ limit_of t) → heavy_page t (ones (node_count t)) ≡ None
  unfolding heavy_page page_count
  ones_light light =
      first_to_none (count_to (node_count t) (has_mark (ones (node_count t)) begins))
      (λ p. ltb (limit_of t) (page_weight t (ones (node_count t)) p))
      (λ p low high.
      let top : p ≤ node_count t = omega (arith, count_to_le (node_count t) (has_mark (ones (node_count t)) begins)) in
      le-ltb (limit_of t) (page_weight t (ones (node_count t)) p) (omega (arith, ones_weight p low top, light p low top)))

-- ---- Refusal 7

module _ {t : List ℕ} (s : SoundFacts t) where
  -- a node weighs no more than its page
  pub held_light : HeldWithin t → Upto (node_count t) (λ v. weight_at t v ≤ limit_of t)
  unfolding within_limit run_weight
  held_light w v low high =
      let rs : List Run = w.runs in
      let home = home_first s rs (holds_facts t rs w.held) v low high in
      let r : Run = home.0 in
      let page : run_weight t rs r ≤ limit_of t =
      leb-true (run_weight t rs r) (limit_of t) (every_all (λ r. leb (run_weight t rs r) (limit_of t)) rs w.within r
      home.1) in
      let here : pick (eqb (home_of t rs v) r.first) (weight_at t v) 0 ≡ weight_at t v =
      pick_true (eqb (home_of t rs v) r.first) (weight_at t v) 0 (eq-eqb (home_of t rs v) r.first (sym home.2)) in
      let part : pick (eqb (home_of t rs v) r.first) (weight_at t v) 0 ≤ run_weight t rs r =
      sum_to_one (node_count t) v (λ v. pick (eqb (home_of t rs v) r.first) (weight_at t v) 0) low high in
      omega arith

  -- a tree of sound form is accepted exactly where some sequence of runs holds it within the limit
  pub accepted_held : sound_form t ≡ true → (accepted_tree t ≡ true) ↔ HeldWithin t
  accepted_held f = (
    λ e. let ones-runs : PlanRuns t (ones (node_count t)) = plan_runs s (ones (node_count t)) (ones_good s) in
        record {
          runs = runs_of t (ones (node_count t));
          held = ones-runs.held;
          within = ones-runs.limit.1 (ones_light s (accepted_facts t e).light);
        },
    λ w. sound_accepted t f (held_light w),
  )

-- refused for weight: of sound form, and held within the limit by no sequence of runs
pub refused_unheld : (t : List ℕ) → (refused_for_weight t ≡ true) ↔ ((sound_form t ≡ true) × (HeldWithin t → ⊥))
unfolding refused_for_weight
refused_unheld t = (
  λ e. let b = both_true (sound_form t) (not (accepted_tree t)) e in (
    b.0,
    λ w. true≢false (sym ((accepted_held (sound_facts t b.0) b.0).1 w) ∙ not-true (accepted_tree t)
        b.1),
  ),
  λ b. rw b.0 (go b.0 b.1 (accepted_tree t) refl),
)
  where
    go : sound_form t ≡ true → (HeldWithin t → ⊥) → (c : Bool) → accepted_tree t ≡ c → not (accepted_tree t) ≡ true
    go sound none true e = absurd (none ((accepted_held (sound_facts t sound) sound).0 e))
    go sound none false e = ap not e

-- ---- The tree reader's answer

-- the tree reader answers 7 exactly where the tree is refused for weight
pub seven_refused : (t : List ℕ) → ((read_tree t).number ≡ 7) ↔ (refused_for_weight t ≡ true)
unfolding read_tree tree_checks refused_for_weight sound_form accepted_tree
seven_refused t = go (passes (form_checks true t)) refl (passes (weight_checks t)) refl
  where
    same : passes (tree_checks true t) ≡ (passes (form_checks true t) && passes (weight_checks t))
    same = passes_append (form_checks true t) (weight_checks t)

    go : (b : Bool) → passes (form_checks true t) ≡ b → (c : Bool) → passes (weight_checks t) ≡ c
        → ((first_of (tree_checks true t) accepted).number ≡ 7)
        ↔ ((passes (form_checks true t) && not (passes (tree_checks true t))) ≡ true)
    go true e true h = (
      λ z. absurd (omega (
        arith,
        ap (λ (x : Answer). x.number) (first_of_all (tree_checks true t) accepted
            (same ∙ rw (e, h))),
      )),
      λ z. absurd (false≢true (sym (rw (same, e, h)) ∙ z)),
    )
    go true e false h = (
      λ z. rw (same, e, h),
      λ z. ap (λ (x : Answer). x.number) (first_of_pass (form_checks true t) (weight_checks t) accepted e)
          ∙ weight_seven t accepted h,
    )
    go false e c h = (
      λ z. absurd
          (true≢false
          (sym (never_first 7 (form_checks true t) accepted (form_plain true t).1
          (sym (ap (λ (x : Answer). x.number) (first_of_stop (form_checks true t) (weight_checks t) accepted accepted e))
          ∙ z)).0
          ∙ e)),
      λ z. absurd (false≢true (sym (rw e) ∙ z)),
    )
