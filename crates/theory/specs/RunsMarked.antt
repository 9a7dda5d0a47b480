-- The run that goes from a node by the marks: the node, and the siblings after it that continue the run. It stops at
-- run_last, its members are the nodes that it goes to, no two nodes that begin a run go to the same one, and each node
-- in a run has a first node.
-- Defines Goes, Ends, plan_run, FirstInRun. Proves length-runs_of, run_last_ends, goes_member, member_goes, goes_one,
-- first_in_run. Assumes nothing.
use Rattle.std.specs.Prelude.{ℕ, zero, suc, ◌+◌, ◌≤◌, ◌<◌, Bool, true, false, not, ◌&&◌, ◌≡◌, refl, ◌⊎◌, List, length, eqb}
use Rattle.std.proofs.Common.{arith, true≢false, sym, ◌∙◌, ap, inl, inr, ⊎_elim, eqb-true, ne_eqb}
use Rattle.std.proofs.Math.Bool.{or-true}
use Rattle.std.proofs.lemmas.Bool.{false≢true, eqb-false, not-true}
use Rattle.model.specs.Table.{node_count, next_at}
use Rattle.model.specs.Plan.{prev_at, bad_mark, begins, continues, mark_at, has_mark, in_run, page_count, run_last_from}
use Rattle.model.specs.Plan.{run_last}
use Rattle.model.specs.Runs.{Run, is_member, runs_of}
use Rattle.std.specs.declared.option.Option.TheVariants.{None}
use Rattle.theory.specs.Bools.{bool_cases, both_true, both_false}
use Rattle.theory.specs.Ranges.{by_earlier, pick_true, pick_false}
use Rattle.theory.specs.TableFacts.{SoundFacts}
use Rattle.theory.specs.TableLinks.{next_later, next_le, prev_at_less}
use Rattle.theory.specs.PlanPages.{good_node, good_continues, good_after}
use Rattle.theory.specs.SiblingChains.{Reach, here, step, LastLink, reach_trans, reach_prev_one, reach_after}
use Rattle.theory.specs.SiblingChains.{reach_last, reach_stop, reach_stop_one, reach_common, reach_between}
use Rattle.theory.specs.Chosen.{chosen, length-chosen}
use Rattle.theory.specs.RunsFacts.{RunFacts, member_inside, inside_member}

-- ---- The run that goes from a node

-- v is u, or comes after it by siblings that continue the run
abbrev pub Goes : List ℕ → List ℕ → ℕ → ℕ → Type 0
Goes t m = Reach t (λ w. has_mark m continues w ≡ true)

-- w is the last of the run that goes from u
pub record Ends (t m : List ℕ) (u w : ℕ) : Type 0 where
  pub goes : Goes t m u w
  pub stops : 1 ≤ next_at t w → has_mark m continues (next_at t w) ≡ true → ⊥

ends_same : {t m : List ℕ} {u w w' : ℕ} → Ends t m u w → Ends t m u w' → w ≡ w'
ends_same e e' = reach_stop_one e.goes e'.goes e.stops e'.stops

abbrev goes_on : List ℕ → List ℕ → ℕ → Bool
goes_on t m v = not (eqb (next_at t v) 0) && has_mark m continues (next_at t v)

run_last_from-on : (f : ℕ) (t m : List ℕ) (v : ℕ) → goes_on t m v ≡ true
    → run_last_from (suc f) t m v ≡ run_last_from f t m (next_at t v)
unfolding run_last_from
run_last_from-on f t m v e = pick_true (goes_on t m v) (run_last_from f t m (next_at t v)) v e

run_last_from_stop : (f : ℕ) (t m : List ℕ) (v : ℕ) → goes_on t m v ≡ false → run_last_from f t m v ≡ v
unfolding run_last_from
run_last_from_stop zero t m v e = refl
run_last_from_stop (suc f) t m v e = pick_false (goes_on t m v) (run_last_from f t m (next_at t v)) v e

goes_on_yes : (t m : List ℕ) (v : ℕ) → goes_on t m v ≡ true → (1 ≤ next_at t v) × (has_mark m continues (next_at t v) ≡ true)
goes_on_yes t m v e =
    let b = both_true (not (eqb (next_at t v) 0)) (has_mark m continues (next_at t v)) e in
    let other : next_at t v ≡ 0 → ⊥ = eqb-false (next_at t v) 0 (not-true (eqb (next_at t v) 0) b.0) in
    (omega arith, b.1)

goes_on_no : (t m : List ℕ) (v : ℕ) → goes_on t m v ≡ false → 1 ≤ next_at t v → has_mark m continues (next_at t v) ≡ true → ⊥
goes_on_no t m v e a p =
    let test : not (eqb (next_at t v) 0) ≡ true = ap not (ne_eqb (next_at t v) 0 (λ z. omega arith)) in
    let on : goes_on t m v ≡ true = rw (test, p) in
    true≢false (sym on ∙ e)

-- the run of node u
abbrev pub plan_run : List ℕ → List ℕ → ℕ → Run
plan_run t m u = record { first = u; last = run_last t m u }

pub runs_of-chosen : (t m : List ℕ) → runs_of t m ≡ chosen (has_mark m begins) (plan_run t m) (node_count t)
unfolding runs_of
runs_of-chosen t m = refl

-- a run for each page
pub length-runs_of : (t m : List ℕ) → length (runs_of t m) ≡ page_count t m
unfolding runs_of page_count
length-runs_of t m = length-chosen (has_mark m begins) (plan_run t m) (node_count t)

-- marks of the nodes of a run
pub in_run-begins : (m : List ℕ) (v : ℕ) → has_mark m begins v ≡ true → in_run m v ≡ true
unfolding in_run
in_run-begins m v e = rw e

pub in_run-continues : (m : List ℕ) (v : ℕ) → has_mark m continues v ≡ true → in_run m v ≡ true
unfolding in_run
in_run-continues m v e = rw (e, or-true)

pub neither_in_run : (m : List ℕ) (v : ℕ) → has_mark m begins v ≡ false → has_mark m continues v ≡ false
    → in_run m v ≡ false
unfolding in_run
neither_in_run m v a b = rw (a, b)

pub in_run_neither : (m : List ℕ) (v : ℕ) → in_run m v ≡ false
    → (has_mark m begins v ≡ false) × (has_mark m continues v ≡ false)
unfolding in_run
in_run_neither m v e = both_false (has_mark m begins v) (has_mark m continues v) e

module _ {t : List ℕ} (s : SoundFacts t) (m : List ℕ) where
  ends_here : (f u : ℕ) → goes_on t m u ≡ false → Ends t m u (run_last_from f t m u)
  ends_here f u e = rw (run_last_from_stop f t m u e) (record { goes = here; stops = goes_on_no t m u e })

  ends_from : (f u : ℕ) → 1 ≤ u → u ≤ node_count t → node_count t ≤ f + u → Ends t m u (run_last_from f t m u)
  ends_from zero u low high enough =
      ⊎_elim
      (λ e.
      let a : 1 ≤ next_at t u = (goes_on_yes t m u e).0 in
      absurd (omega (arith, next_later s u low high a, next_le s u low high)))
      (ends_here 0 u) (bool_cases (goes_on t m u))
  ends_from (suc f) u low high enough =
      ⊎_elim
      (λ e.
      let on = goes_on_yes t m u e in
      let later : u < next_at t u = next_later s u low high on.0 in
      let r = ends_from f (next_at t u) on.0 (next_le s u low high) (omega arith) in
      rw (run_last_from-on f t m u e) (record { goes = step on.0 on.1 r.goes; stops = r.stops }))
      (ends_here (suc f) u) (bool_cases (goes_on t m u))

  -- run_last is the last of the run
  pub run_last_ends : (u : ℕ) → 1 ≤ u → u ≤ node_count t → Ends t m u (run_last t m u)
  unfolding run_last
  run_last_ends u low high = ends_from (node_count t) u low high (omega arith)

  pub ends_run_last : (u w : ℕ) → 1 ≤ u → u ≤ node_count t → Ends t m u w → run_last t m u ≡ w
  ends_run_last u w low high e = ends_same (run_last_ends u low high) e

  pub plan_run-facts : (u : ℕ) → 1 ≤ u → u ≤ node_count t → RunFacts t (plan_run t m u)
  plan_run-facts u low high = record { low = low; high = high; after = reach_after (run_last_ends u low high).goes }

  -- the run's members are the nodes that it goes to
  pub goes_member : (u v : ℕ) → 1 ≤ u → u ≤ node_count t → Goes t m u v → is_member t v (plan_run t m u) ≡ true
  goes_member u v low high r =
      let e : Ends t m u (run_last t m u) = run_last_ends u low high in
      inside_member s v (plan_run t m u) (plan_run-facts u low high)
      (reach_after r, reach_after (reach_stop r e.goes e.stops))

  pub member_goes : (u v : ℕ) → 1 ≤ u → u ≤ node_count t → is_member t v (plan_run t m u) ≡ true → Goes t m u v
  member_goes u v low high e =
      let b =
      member_inside t v (plan_run t m u) e in reach_between s (run_last_ends u low high).goes b.0 b.1 low high

  -- where it begins with a run's first node, they are in the run
  pub goes_in_run : (u v : ℕ) → has_mark m begins u ≡ true → Goes t m u v → in_run m v ≡ true
  goes_in_run u v first r = go (reach_last r)
    where
      go : (u ≡ v) ⊎ LastLink t (λ w. has_mark m continues w ≡ true) u v → in_run m v ≡ true
      go (inl e) = ap (in_run m) (sym e) ∙ in_run-begins m u first
      go (inr b) = in_run-continues m v b.passed

  -- and no other first node goes to them
  pub goes_one : (u u' v : ℕ) → 1 ≤ u → u ≤ node_count t → 1 ≤ u' → u' ≤ node_count t → has_mark m begins u ≡ true
      → has_mark m begins u' ≡ true
      → Goes t m u v → Goes t m u' v → u ≡ u'
  goes_one u u' v low high low' high' first first' r r' = go (reach_common s r r' low high low' high')
    where
      both : (w : ℕ) → has_mark m begins w ≡ true → has_mark m continues w ≡ true → ⊥
      both w a b = omega (arith, eqb-true (mark_at m w) 1 a, eqb-true (mark_at m w) 2 b)

      last : (w w' : ℕ) → has_mark m begins w' ≡ true → (w ≡ w') ⊎ LastLink t (λ x. has_mark m continues x ≡ true) w w'
          → w ≡ w'
      last w w' a (inl e) = e
      last w w' a (inr b) = absurd (both w' a b.passed)

      go : Goes t m u u' ⊎ Goes t m u' u → u ≡ u'
      go (inl x) = last u u' first' (reach_last x)
      go (inr x) = sym (last u' u first (reach_last x))

-- ---- The run of a node

-- the first node of the run that v is in
pub record FirstInRun (t m : List ℕ) (v : ℕ) : Type 0 where
  pub first : ℕ
  pub low : 1 ≤ first
  pub high : first ≤ v
  pub mark : has_mark m begins first ≡ true
  pub goes : Goes t m first v

module _ {t : List ℕ} (s : SoundFacts t) (m : List ℕ) (good : bad_mark t m ≡ None) where
  abbrev FirstInRunAt : ℕ → Type 0
  FirstInRunAt v = 1 ≤ v → v ≤ node_count t → in_run m v ≡ true → FirstInRun t m v

  pub first_in_run : (v : ℕ) → 1 ≤ v → v ≤ node_count t → in_run m v ≡ true → FirstInRun t m v
  first_in_run =
      by_earlier FirstInRunAt (λ v earlier low high e. go v earlier low high e (has_mark m begins v) refl
      (has_mark m continues v) refl)
    where
      go : (v : ℕ) → ((u : ℕ) → u < v → FirstInRunAt u) → 1 ≤ v → v ≤ node_count t → in_run m v ≡ true
          → (b : Bool) → has_mark m begins v ≡ b → (c : Bool) → has_mark m continues v ≡ c → FirstInRun t m v
      go v earlier low high e true q c q' = record { first = v; low = low; high = omega arith; mark = q; goes = here }
      go v earlier low high e false q true q' =
          let less : prev_at t v < v = prev_at_less t v low in
          let fine = good_node s m good v low high in
          let one : 1 ≤ prev_at t v = good_continues t m v low fine q' in
          let p : FirstInRun t m (prev_at t v) =
          earlier (prev_at t v) less one (omega arith) (good_after t m v low fine q') in
          record {
            first = p.first;
            low = p.low;
            high = omega (arith, p.high);
            mark = p.mark;
            goes = reach_trans p.goes (reach_prev_one t v low one q');
          }
      go v earlier low high e false q false q' = absurd (false≢true (sym (neither_in_run m v q q') ∙ e))
