-- The plan of a sequence of runs that holds the tree: its marks are good, its runs are those of the sequence, and it is
-- the only plan with those runs.
-- Defines mark_of_runs, marks_of. Proves marks_length, marks_good, runs_of_marks (the same runs), one_plan. Assumes
-- nothing.
use Rattle.std.specs.Prelude.{ℕ, zero, suc, ◌-◌, ◌≤◌, ◌<◌, Bool, true, false, not, ◌&&◌, ◌||◌, ◌≡◌, refl, ◌⊎◌, List, [], ◌∷◌, length, get_or, eqb}
use Rattle.std.proofs.Common.{arith, eq-or-lt_of_le, true≢false, sym, ◌∙◌, ap, inl, inr, ⊎_elim, ext_get_or, eqb-true, eq-eqb, ne_eqb}
use Rattle.std.proofs.lemmas.Bool.{false≢true, eqb-false}
use Rattle.model.specs.Basics.{pick, at_place, list_to}
use Rattle.model.specs.Table.{node_count, next_at}
use Rattle.model.specs.Plan.{prev_at, begins, continues, stays, mark_at, has_mark, in_run, good_mark, bad_mark}
use Rattle.model.specs.Runs.{Run, run_with, runs_of}
use Rattle.std.specs.declared.option.Option.{Option}
use Rattle.std.specs.declared.option.Option.TheVariants.{Some, None}
use Rattle.theory.specs.Bools.{bool_cases, either_true}
use Rattle.theory.specs.Ranges.{pick_true, pick_false, at_place_at, at_place_nowhere, list_to_cong, length-list_to}
use Rattle.theory.specs.Ranges.{get_d_list_to}
use Rattle.theory.specs.TableFacts.{SoundFacts}
use Rattle.theory.specs.TableLinks.{next_later, next_le, next_prev}
use Rattle.theory.specs.PlanPages.{bad_none, good_node, good_first, good_later, not_root}
use Rattle.theory.specs.SiblingChains.{here, step, After, reach_trans, reach_one, reach_prev_one, reach_le}
use Rattle.theory.specs.SiblingChains.{reach_prev}
use Rattle.theory.specs.Lists.{Mem, From}
use Rattle.theory.specs.RunsFacts.{RunFacts, run_path, Inside, member_inside, member_range, inside_member}
use Rattle.theory.specs.RunsFacts.{first_member, FoundRun, run_with_found, HoldFacts, runs_apart, run_with_at}
use Rattle.theory.specs.RunsFacts.{run_with_root}
use Rattle.theory.specs.RunsSame.{SameRuns, same_run_with}
use Rattle.theory.specs.RunsMarked.{Goes, FirstInRun, first_in_run, plan_run, in_run-begins, in_run-continues}
use Rattle.theory.specs.RunsMarked.{ends_run_last, neither_in_run}
use Rattle.theory.specs.RunsOfPlan.{runs_facts, runs_mem, mem_from, run_with_goes, run_with_out}

-- 1 for the first node of a run, 2 for any other node of one, else 0
unfoldable pub mark_of_runs : List ℕ → List Run → ℕ → ℕ
mark_of_runs t rs v = at_place (run_with t rs v) (λ u. pick (eqb u v) begins continues) stays

unfoldable pub marks_of : List ℕ → List Run → List ℕ
marks_of t rs = list_to (node_count t) (λ v. mark_of_runs t rs v ∷ [])

-- ---- Its marks

mark_of_runs_at : (t : List ℕ) (rs : List Run) (v u : ℕ) → run_with t rs v ≡ Some u → mark_of_runs t rs v ≡ pick (eqb u v) 1 2
unfolding mark_of_runs
mark_of_runs_at t rs v u e = at_place_at (run_with t rs v) u (λ u. pick (eqb u v) 1 2) 0 e

mark_of_runs-first : (t : List ℕ) (rs : List Run) (v u : ℕ) → run_with t rs v ≡ Some u → u ≡ v → mark_of_runs t rs v ≡ 1
mark_of_runs-first t rs v u e q = mark_of_runs_at t rs v u e ∙ pick_true (eqb u v) 1 2 (eq-eqb u v q)

mark_of_runs_other : (t : List ℕ) (rs : List Run) (v u : ℕ) → run_with t rs v ≡ Some u → (u ≡ v → ⊥) → mark_of_runs t rs v ≡ 2
mark_of_runs_other t rs v u e q = mark_of_runs_at t rs v u e ∙ pick_false (eqb u v) 1 2 (ne_eqb u v q)

mark_of_runs_none : (t : List ℕ) (rs : List Run) (v : ℕ) → run_with t rs v ≡ None → mark_of_runs t rs v ≡ 0
unfolding mark_of_runs
mark_of_runs_none t rs v e = at_place_nowhere (run_with t rs v) (λ u. pick (eqb u v) 1 2) 0 e

-- what a node's mark says of its run
data MarkCase (t : List ℕ) (rs : List Run) (v : ℕ) : Type 0 where
  run_first : run_with t rs v ≡ Some v → mark_of_runs t rs v ≡ 1 → MarkCase t rs v
  run_later : (u : ℕ) → run_with t rs v ≡ Some u → (u ≡ v → ⊥) → mark_of_runs t rs v ≡ 2 → MarkCase t rs v
  run_none : run_with t rs v ≡ None → mark_of_runs t rs v ≡ 0 → MarkCase t rs v

mark_case : (t : List ℕ) (rs : List Run) (v : ℕ) → MarkCase t rs v
mark_case t rs v = go (run_with t rs v) refl
  where
    go : (o : Option ℕ) → run_with t rs v ≡ o → MarkCase t rs v
    go None e = run_none e (mark_of_runs_none t rs v e)
    go (Some u) e = by (eqb u v) refl
      where
        by : (b : Bool) → eqb u v ≡ b → MarkCase t rs v
        by true q = let same : u ≡ v = eqb-true u v q in run_first (e ∙ ap Some same) (mark_of_runs-first t rs v u e same)
        by false q = run_later u e (eqb-false u v q) (mark_of_runs_other t rs v u e (eqb-false u v q))

pub marks_length : (t : List ℕ) (rs : List Run) → length (marks_of t rs) ≡ node_count t
unfolding marks_of
marks_length t rs = length-list_to (node_count t) (mark_of_runs t rs)

get_d_marks : (t : List ℕ) (rs : List Run) (i : ℕ) → i < node_count t → get_or (marks_of t rs) i 0 ≡ mark_of_runs t rs (suc i)
unfolding marks_of
get_d_marks t rs i h = get_d_list_to (node_count t) i (mark_of_runs t rs) 0 h

mark_at_suc : (m : List ℕ) (i : ℕ) → mark_at m (suc i) ≡ get_or m i 0
unfolding mark_at
mark_at_suc m i = let e : suc i - 1 ≡ i = omega arith in ap (λ k. get_or m k 0) e

marks_at : (t : List ℕ) (rs : List Run) (v : ℕ) → 1 ≤ v → v ≤ node_count t → mark_at (marks_of t rs) v ≡ mark_of_runs t rs v
marks_at t rs zero low high = absurd (omega arith)
marks_at t rs (suc i) low high = mark_at_suc (marks_of t rs) i ∙ get_d_marks t rs i high

-- sequences that put each node in the same run have the same plan
marks_same : (t : List ℕ) (rs rs' : List Run) → ((v : ℕ) → run_with t rs v ≡ run_with t rs' v)
    → marks_of t rs ≡ marks_of t rs'
unfolding marks_of mark_of_runs
marks_same t rs rs' h =
    list_to_cong (node_count t) (λ v. mark_of_runs t rs v ∷ []) (λ v. mark_of_runs t rs' v ∷ [])
    (λ v low high. ap (λ o. at_place o (λ u. pick (eqb u v) 1 2) 0 ∷ []) (h v))

-- ---- The plan of a sequence that holds the tree

module _ {t : List ℕ} (s : SoundFacts t) (rs : List Run) (h : HoldFacts t rs) where
  mark_is : (v k : ℕ) → 1 ≤ v → v ≤ node_count t → mark_of_runs t rs v ≡ k → has_mark (marks_of t rs) k v ≡ true
  mark_is v k low high e = eq-eqb (mark_at (marks_of t rs) v) k (marks_at t rs v low high ∙ e)

  mark_not : (v k j : ℕ) → 1 ≤ v → v ≤ node_count t → mark_of_runs t rs v ≡ k → (k ≡ j → ⊥)
      → has_mark (marks_of t rs) j v ≡ false
  mark_not v k j low high e other =
      ne_eqb (mark_at (marks_of t rs) v) j (λ q. other (sym (marks_at t rs v low high ∙ e) ∙ q))

  -- the marks of the nodes of a run
  first_begins : (r : Run) → Mem r rs → has_mark (marks_of t rs) begins r.first ≡ true
  first_begins r n =
      let f : RunFacts t r = h.each r n in
      mark_is r.first 1 f.low f.high
      (mark_of_runs-first t rs r.first r.first (run_with_at s rs h r.first r n (first_member s r f)) refl)

  other_continues : (r : Run) (v : ℕ) → Mem r rs → Inside t v r → (r.first ≡ v → ⊥)
      → has_mark (marks_of t rs) continues v ≡ true
  other_continues r v n i other =
      let f : RunFacts t r = h.each r n in
      let range = member_range s v r f i in
      mark_is v 2 range.0 range.1
      (mark_of_runs_other t rs v r.first (run_with_at s rs h v r n (inside_member s v r f i)) other)

  member_in_run : (r : Run) (v : ℕ) → Mem r rs → Inside t v r → in_run (marks_of t rs) v ≡ true
  member_in_run r v n i =
      ⊎_elim (λ q. rw (← eqb-true r.first v q) (in_run-begins (marks_of t rs) r.first (first_begins r n)))
      (λ q. in_run-continues (marks_of t rs) v (other_continues r v n i (eqb-false r.first v q)))
      (bool_cases (eqb r.first v))

  -- a member that is not the first comes just after a member
  record PrevInRun (r : Run) (v : ℕ) : Type 0 where
    low : 1 ≤ prev_at t v
    inside : Inside t (prev_at t v) r

  prev_in_run : (r : Run) (v : ℕ) → Mem r rs → Inside t v r → (r.first ≡ v → ⊥) → PrevInRun r v
  prev_in_run r v n i other = go (reach_prev s i.0 f.low f.high)
    where
      f : RunFacts t r
      f = h.each r n

      go : (r.first ≡ v) ⊎ ((1 ≤ prev_at t v) × Unit {0} × After t r.first (prev_at t v)) → PrevInRun r v
      go (inl e) = absurd (other e)
      go (inr b) =
          let one : After t (prev_at t v) v = reach_prev_one t v (member_range s v r f i).0 b.0 tt in
          record { low = b.0; inside = (b.2, reach_trans one i.1) }

  -- its marks are good
  good_mark_lem : (v : ℕ) → 1 ≤ v → v ≤ node_count t → good_mark t (marks_of t rs) v ≡ true
  good_mark_lem v low high = go (eq-or-lt_of_le low)
    where
      go : (1 ≡ v) ⊎ (1 < v) → good_mark t (marks_of t rs) v ≡ true
      go (inl q) =
          ap (good_mark t (marks_of t rs)) (sym q)
          ∙ good_first t (marks_of t rs)
          ∙ mark_is 1 1 (omega arith) s.count_low (mark_of_runs-first t rs 1 1 (run_with_root s rs h) refl)
      go (inr two) = good_later t (marks_of t rs) v two ∙ by (mark_case t rs v)
        where
          by : MarkCase t rs v
              → pick (has_mark (marks_of t rs) continues v)
              (not (eqb (prev_at t v) 0) && in_run (marks_of t rs) (prev_at t v))
              (has_mark (marks_of t rs) stays v || has_mark (marks_of t rs) begins v)
              ≡ true
          by (run_first e k) =
              pick_false (has_mark (marks_of t rs) continues v) _ _ (mark_not v 1 2 low high k (λ z. omega arith))
              ∙ rw (mark_not v 1 0 low high k (λ z. omega arith)) (mark_is v 1 low high k)
          by (run_none e k) =
              pick_false (has_mark (marks_of t rs) continues v) _ _ (mark_not v 0 2 low high k (λ z. omega arith))
              ∙ rw (mark_is v 0 low high k)
          by (run_later u e apart k) =
              let found : FoundRun t rs v u = run_with_found t rs v u e in
              let i : Inside t v found.run = member_inside t v found.run found.member in
              let b : PrevInRun found.run v =
              prev_in_run found.run v found.listed i (λ z. apart (sym found.first ∙ z)) in
              let some : not (eqb (prev_at t v) 0) ≡ true =
              ap not (ne_eqb (prev_at t v) 0 (λ z. omega (arith, b.low))) in
              pick_true (has_mark (marks_of t rs) continues v) _ _ (mark_is v 2 low high k)
              ∙ rw (some, member_in_run found.run (prev_at t v) found.listed b.inside)

  pub marks_good : bad_mark t (marks_of t rs) ≡ None
  marks_good = (bad_none t (marks_of t rs)).1 good_mark_lem

  -- ---- Its runs

  -- from a node of a run the marks go on to the run's last
  goes_on : (r : Run) (u : ℕ) → Mem r rs → After t r.first u → After t u r.last → 1 ≤ u → u ≤ node_count t
      → Goes t (marks_of t rs) u r.last
  goes_on r u n i here low high = here
  goes_on r u n i (step a p q) low high =
      let f : RunFacts t r = h.each r n in
      let later : u < next_at t u = next_later s u low high a in
      let from : After t r.first (next_at t u) = reach_trans i (reach_one a tt) in
      step a
      (other_continues r (next_at t u) n (from, q) (λ e. omega (arith, (reach_le s i f.low f.high).0)))
      (goes_on r (next_at t u) n from q a (next_le s u low high))

  -- and stop there
  goes_no_further : (r : Run) → Mem r rs → 1 ≤ next_at t r.last
      → has_mark (marks_of t rs) continues (next_at t r.last) ≡ true → ⊥
  goes_no_further r n a e = by (mark_case t rs v)
    where
      f : RunFacts t r
      f = h.each r n

      v : ℕ
      v = next_at t r.last

      top : (r.first ≤ r.last) × (r.last ≤ node_count t)
      top = reach_le s f.after f.low f.high

      low : 1 ≤ r.last
      low = omega (arith, f.low, top.0)

      high : v ≤ node_count t
      high = next_le s r.last low top.1

      is_two : mark_of_runs t rs v ≡ 2
      is_two = sym (marks_at t rs v a high) ∙ eqb-true (mark_at (marks_of t rs) v) 2 e

      by : MarkCase t rs v → ⊥
      by (run_first q k) = omega (arith, is_two, k)
      by (run_none q k) = omega (arith, is_two, k)
      by (run_later u q apart k) =
          let found : FoundRun t rs v u = run_with_found t rs v u q in
          let i : Inside t v found.run = member_inside t v found.run found.member in
          let b : PrevInRun found.run v =
          prev_in_run found.run v found.listed i (λ z. apart (sym found.first ∙ z)) in
          let prev : prev_at t v ≡ r.last = next_prev s r.last v low top.1 a refl in
          let mine : Inside t r.last found.run = rw prev at b.inside in
          let same : found.run ≡ r =
          runs_apart s rs h r.last found.run r found.listed n
          (inside_member s r.last found.run (h.each found.run found.listed) mine)
          (inside_member s r.last r f (f.after, here)) in
          let back : After t v r.last = rw same at i.1 in
          omega (arith, (reach_le s back a high).0, next_later s r.last low top.1 a)

  -- the run that the marks go to from its first node is the run
  run_again : (r : Run) → Mem r rs → plan_run t (marks_of t rs) r.first ≡ r
  run_again r n =
      let f : RunFacts t r = h.each r n in
      run_path {r = plan_run t (marks_of t rs) r.first} {r' = r} refl
      (ends_run_last s (marks_of t rs) r.first r.last f.low f.high
      (record { goes = goes_on r r.first n here f.after f.low f.high; stops = goes_no_further r n }))

  -- so the plan has the runs of the sequence, and no others
  pub runs_of_marks : SameRuns (runs_of t (marks_of t rs)) rs
  runs_of_marks =
      record {
        there = λ r n. go r (mem_from s (marks_of t rs) marks_good r n);
        back =
            λ r n. rw (run_again r n) at
            (runs_mem s (marks_of t rs) marks_good r.first (h.each r n).low (h.each r n).high (first_begins r n));
      }
    where
      go : (r : Run) → From (has_mark (marks_of t rs) begins) (plan_run t (marks_of t rs)) (node_count t) r → Mem r rs
      go r c = by (mark_case t rs u)
        where
          u : ℕ
          u = c.number

          is_one : mark_of_runs t rs u ≡ 1
          is_one = sym (marks_at t rs u c.low c.high) ∙ eqb-true (mark_at (marks_of t rs) u) 1 c.passed

          by : MarkCase t rs u → Mem r rs
          by (run_later w q apart k) = absurd (omega (arith, is_one, k))
          by (run_none q k) = absurd (omega (arith, is_one, k))
          by (run_first q k) =
              let found : FoundRun t rs u u = run_with_found t rs u u q in
              let same : r ≡ found.run =
              c.same ∙ ap (plan_run t (marks_of t rs)) (sym found.first) ∙ run_again found.run found.listed in
              rw same found.listed

-- ---- The plan of a plan's runs

module _ {t : List ℕ} (s : SoundFacts t) (m : List ℕ) (good : bad_mark t m ≡ None) where
  -- a good mark that is neither 1 nor 2 is 0
  stays_zero : (v : ℕ) → 1 ≤ v → v ≤ node_count t → has_mark m begins v ≡ false → has_mark m continues v ≡ false
      → mark_at m v ≡ 0
  stays_zero v low high e e' =
      let two : 2 ≤ v = not_root s m good v low e in
      ⊎_elim (eqb-true (mark_at m v) 0) (λ q. absurd (false≢true (sym e ∙ q)))
      (either_true (has_mark m stays v) (has_mark m begins v)
      (sym (pick_false (has_mark m continues v) _ _ e') ∙ sym (good_later t m v two) ∙ good_node s m good v low high))

  mark_again : (v : ℕ) → 1 ≤ v → v ≤ node_count t → mark_of_runs t (runs_of t m) v ≡ mark_at m v
  mark_again v low high = go (has_mark m begins v) refl (has_mark m continues v) refl
    where
      go : (b : Bool) → has_mark m begins v ≡ b → (c : Bool) → has_mark m continues v ≡ c
          → mark_of_runs t (runs_of t m) v ≡ mark_at m v
      go true q c q' =
          mark_of_runs-first t (runs_of t m) v v (run_with_goes s m good v v low high q here) refl
          ∙ sym (eqb-true (mark_at m v) 1 q)
      go false q true q' =
          let d : FirstInRun t m v = first_in_run s m good v low high (in_run-continues m v q') in
          let top : d.first ≤ node_count t = omega (arith, d.high) in
          let other : d.first ≡ v → ⊥ = λ e. true≢false (sym d.mark ∙ ap (has_mark m begins) e ∙ q) in
          mark_of_runs_other t (runs_of t m) v d.first
          (run_with_goes s m good d.first v d.low top d.mark d.goes) other
          ∙ sym (eqb-true (mark_at m v) 2 q')
      go false q false q' =
          mark_of_runs_none t (runs_of t m) v (run_with_out s m good v (neither_in_run m v q q'))
          ∙ sym (stays_zero v low high q q')

  marks_of_runs : length m ≡ node_count t → marks_of t (runs_of t m) ≡ m
  marks_of_runs long =
      ext_get_or 0 (marks_of t (runs_of t m)) m (marks_length t (runs_of t m) ∙ sym long)
      (λ i fits.
      let high : suc i ≤ node_count t = omega (arith, marks_length t (runs_of t m)) in
      get_d_marks t (runs_of t m) i high ∙ mark_again (suc i) (omega arith) high ∙ mark_at_suc m i)

  -- a plan with the runs of a sequence is the sequence's plan
  pub one_plan : (rs : List Run) → length m ≡ node_count t → SameRuns (runs_of t m) rs → m ≡ marks_of t rs
  one_plan rs long same =
      sym (marks_of_runs long)
      ∙ marks_same t (runs_of t m) rs (same_run_with s (runs_of t m) rs (runs_facts s m good) same)
