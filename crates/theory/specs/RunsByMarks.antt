-- Marks and runs in plain numbers, as the archive asks for them: the marks that are allowed, the earlier sibling with
-- mark 1 whose run a node with mark 2 is in, the mark 2 of each sibling after a run's first node and up to its last,
-- and run_last by the next sibling.
-- Defines GoodMarks, InRunOf. Proves good_marks, in_run_of, run_last_low, run_last_marks, run_last-on, run_last_stop.
-- Assumes nothing.
use Rattle.std.specs.Prelude.{ℕ, ◌≤◌, ◌<◌, true, false, ◌≡◌, ◌⊎◌, List}
use Rattle.std.proofs.Common.{arith, eq-or-lt_of_le, sym, ◌∙◌, ap, inl, inr, ⊎_elim, eqb-true, eq-eqb}
use Rattle.model.specs.Table.{node_count, next_at}
use Rattle.model.specs.Plan.{prev_at, parent_at, stays, begins, continues, mark_at, has_mark, in_run, good_mark, bad_mark}
use Rattle.model.specs.Plan.{run_last}
use Rattle.std.specs.declared.option.Option.TheVariants.{None}
use Rattle.theory.specs.Bools.{bool_cases, either_true}
use Rattle.theory.specs.Ranges.{Upto, pick_false}
use Rattle.theory.specs.TableFacts.{SoundFacts}
use Rattle.theory.specs.TableLinks.{next_le}
use Rattle.theory.specs.SiblingChains.{After, LastLink, here, step, reach_after, reach_last, reach_total}
use Rattle.theory.specs.SiblingChains.{reach_stop, reach_le, reach_between, reach_parent}
use Rattle.theory.specs.SiblingsByParent.{sibling_after}
use Rattle.theory.specs.PlanPages.{bad_none, good_first, good_later, good_continues, good_after}
use Rattle.theory.specs.RunsMarked.{Goes, Ends, run_last_ends, ends_run_last, in_run-continues, FirstInRun}
use Rattle.theory.specs.RunsMarked.{first_in_run}

-- ---- Marks

pub record GoodMarks (t m : List ℕ) : Type 0 where
  pub few : Upto (node_count t) (λ v. mark_at m v ≤ 2)
  pub before : Upto (node_count t) (λ v. mark_at m v ≡ 2 → 1 ≤ prev_at t v)
  pub runs_on : Upto (node_count t) (λ v. mark_at m v ≡ 2 → (mark_at m (prev_at t v) ≡ 1) ⊎ (mark_at m (prev_at t v) ≡ 2))

in_run_cases : (m : List ℕ) (v : ℕ) → in_run m v ≡ true → (mark_at m v ≡ 1) ⊎ (mark_at m v ≡ 2)
unfolding in_run
in_run_cases m v e =
    ⊎_elim (λ q. inl (eqb-true (mark_at m v) 1 q)) (λ q. inr (eqb-true (mark_at m v) 2 q))
    (either_true (has_mark m begins v) (has_mark m continues v) e)

good_few : (t m : List ℕ) (v : ℕ) → 1 ≤ v → good_mark t m v ≡ true → mark_at m v ≤ 2
good_few t m v low good = go (eq-or-lt_of_le low) (bool_cases (has_mark m continues v))
  where
    go : (1 ≡ v) ⊎ (1 < v) → (has_mark m continues v ≡ true) ⊎ (has_mark m continues v ≡ false) → mark_at m v ≤ 2
    go (inl root) b =
        let first : has_mark m begins 1 ≡ true = sym (good_first t m) ∙ ap (good_mark t m) root ∙ good in
        omega (arith, eqb-true (mark_at m 1) 1 first, ap (mark_at m) root)
    go (inr two) (inl q) = omega (arith, eqb-true (mark_at m v) 2 q)
    go (inr two) (inr q) =
        ⊎_elim (λ e. omega (arith, eqb-true (mark_at m v) 0 e)) (λ e. omega (arith, eqb-true (mark_at m v) 1 e))
        (either_true (has_mark m stays v) (has_mark m begins v)
        (sym (pick_false (has_mark m continues v) _ _ q) ∙ sym (good_later t m v two) ∙ good))

pub good_marks : (t m : List ℕ) → bad_mark t m ≡ None → GoodMarks t m
good_marks t m e =
    record {
      few = λ v low high. good_few t m v low (good v low high);
      before = λ v low high two. good_continues t m v low (good v low high) (eq-eqb (mark_at m v) 2 two);
      runs_on =
          λ v low high two. in_run_cases m (prev_at t v)
          (good_after t m v low (good v low high) (eq-eqb (mark_at m v) 2 two));
    }
  where
    good : Upto (node_count t) (λ v. good_mark t m v ≡ true)
    good = (bad_none t m).0 e

-- ---- The last of a run

pub run_last_low : {t m : List ℕ} → SoundFacts t → GoodMarks t m → (b : ℕ) → 1 ≤ b → b ≤ node_count t → b ≤ run_last t m b
run_last_low {t} {m} s g b low high = (reach_le s (run_last_ends s m b low high).goes low high).0

module _ {t : List ℕ} (m : List ℕ) (s : SoundFacts t) (v : ℕ) (low : 1 ≤ v) (high : v ≤ node_count t) where
  pub run_last-on : 1 ≤ next_at t v → mark_at m (next_at t v) ≡ 2 → run_last t m v ≡ run_last t m (next_at t v)
  run_last-on one two =
      let rest : Ends t m (next_at t v) (run_last t m (next_at t v)) =
      run_last_ends s m (next_at t v) one (next_le s v low high) in
      ends_run_last s m v (run_last t m (next_at t v)) low high
      (record { goes = step one (eq-eqb (mark_at m (next_at t v)) 2 two) rest.goes; stops = rest.stops })

  pub run_last_stop : (1 ≤ next_at t v → mark_at m (next_at t v) ≡ 2 → ⊥) → run_last t m v ≡ v
  run_last_stop none =
      ends_run_last s m v v low high
      (record { goes = here; stops = λ one e. none one (eqb-true (mark_at m (next_at t v)) 2 e) })

-- ---- The run of a node with mark 2

pub record InRunOf (t m : List ℕ) (v b : ℕ) : Type 0 where
  pub low : 1 ≤ b
  pub less : b < v
  pub one : mark_at m b ≡ 1
  pub sibling : parent_at t b ≡ parent_at t v
  pub reached : v ≤ run_last t m b

module _ {t : List ℕ} (s : SoundFacts t) (m : List ℕ) where
  pub in_run_of : bad_mark t m ≡ None → (v : ℕ) → 1 ≤ v → v ≤ node_count t → mark_at m v ≡ 2 → (b : ℕ) × InRunOf t m v b
  in_run_of good v low high two =
      let h : FirstInRun t m v = first_in_run s m good v low high (in_run-continues m v (eq-eqb (mark_at m v) 2 two)) in
      let one : mark_at m h.first ≡ 1 = eqb-true (mark_at m h.first) 1 h.mark in
      let other : h.first ≡ v → ⊥ = λ e. omega (arith, ap (mark_at m) e) in
      let top : h.first ≤ node_count t = omega (arith, h.high) in
      let e : Ends t m h.first (run_last t m h.first) = run_last_ends s m h.first h.low top in (
        h.first,
        record {
          low = h.low;
          less = omega (arith, h.high);
          one = one;
          sibling = sym (reach_parent s h.goes h.low top);
          reached = (reach_le s (reach_stop h.goes e.goes e.stops) low high).0;
        },
      )

  -- the siblings after a run's first node and up to its last have mark 2
  pub run_last_marks : (b v : ℕ) → 1 ≤ b → b < v → v ≤ node_count t → v ≤ run_last t m b → parent_at t b ≡ parent_at t v
      → mark_at m v ≡ 2
  run_last_marks b v low less high within same = last (reach_last (by (reach_total run after)))
    where
      run : Goes t m b (run_last t m b)
      run = (run_last_ends s m b low (omega arith)).goes

      after : After t b v
      after = sibling_after s b v low less high same

      by : After t (run_last t m b) v ⊎ Goes t m v (run_last t m b) → Goes t m b v
      by (inl r) =
          let top = reach_le s run low (omega arith) in
          let end : run_last t m b ≡ v = omega (arith, (reach_le s r (omega (arith, top.0)) top.1).0) in
          rw end at run
      by (inr r) = reach_between s run after (reach_after r) low (omega arith)

      last : (b ≡ v) ⊎ LastLink t (λ w. has_mark m continues w ≡ true) b v → mark_at m v ≡ 2
      last (inl e) = absurd (omega arith)
      last (inr x) = eqb-true (mark_at m v) 2 x.passed
