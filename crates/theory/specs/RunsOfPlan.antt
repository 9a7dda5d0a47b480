-- The runs of a plan with no bad mark, in a table of sound form: they hold the tree; a node is in one of them where its
-- mark says so, its home is the node that begins its page, and each run weighs what its page weighs.
-- Proves runs_facts, runs_hold, run_with_goes, run_with_out, root_weight_lem, within_heavy. Assumes nothing.
use Prim.Native.Nat.{ℕ, suc, ◌≤◌, ◌<◌}
use native.Mathlib.Omega.{arith}
use Rattle.std.specs.Prelude.{Bool, true, false, ◌&&◌, ◌≡◌, ◌↔◌, List}
use Rattle.std.proofs.Common.{true≢false, ◌∙◌}
use Rattle.std.proofs.Math.Path.{refl, sym, ap}
use Rattle.std.proofs.Math.Dec.{eqb, leb, ltb}
use borrow.Author.Tests.{eqb-true, eq-eqb, leb-true, le-leb, ltb-false, le-ltb}
use Rattle.model.specs.Basics.{pick, count_to}
use Rattle.model.specs.Table.{node_count, limit_of, weight_at, next_at}
use Rattle.model.specs.Plan.{parent_at, begins, has_mark, in_run, page_of, page_count, page_weight, bad_mark, heavy_page}
use Rattle.model.specs.Runs.{Run, is_member, root_run, count_of, holds, run_with, home_of, run_weight, within_limit}
use Rattle.model.specs.Runs.{root_weight, runs_of}
use Rattle.std.specs.declared.option.Option.TheVariants.{Some, None}
use Rattle.theory.specs.Bools.{both_true, same_true}
use Rattle.theory.specs.Ranges.{by_earlier, sum_to_cong, count_to_zero, count_to_yes, count_to_none, first_to_none}
use Rattle.theory.specs.Ranges.{first_to_nowhere}
use Rattle.theory.specs.Chosen.{count_to_mono, count_to_some, ranked, count_to_same, count_to_only}
use Rattle.theory.specs.TableFacts.{SoundFacts}
use Rattle.theory.specs.TableLinks.{next_le, next_prev, parent_at_less, parent_low}
use Rattle.theory.specs.PlanPages.{page_of_begins, page_of_continues, page_of_stays, root_begins, not_root}
use Rattle.theory.specs.SiblingChains.{here, step}
use Rattle.theory.specs.Lists.{Mem, every_all, all_every, From, chosen_from, chosen_mem, count_of_chosen}
use Rattle.theory.specs.RunsFacts.{run_path, none_run_with, HoldFacts, facts_holds, run_with_at, run_with_zero}
use Rattle.theory.specs.RunsFacts.{home_run, home_up}
use Rattle.theory.specs.RunsMarked.{Goes, FirstInRun, first_in_run, plan_run, runs_of-chosen, in_run_neither}
use Rattle.theory.specs.RunsMarked.{ends_run_last, plan_run-facts, goes_member, member_goes, goes_in_run, goes_one}

-- the node that begins the page of v
record OnPage (t m : List ℕ) (v : ℕ) : Type 0 where
  first : ℕ
  low : 1 ≤ first
  high : first ≤ v
  mark : has_mark m begins first ≡ true
  home : home_of t (runs_of t m) v ≡ first
  page : page_of t m v ≡ count_to first (has_mark m begins)

module _ {t : List ℕ} (s : SoundFacts t) (m : List ℕ) (good : bad_mark t m ≡ None) where
  -- ---- They hold the tree

  pub mem_from : (r : Run) → Mem r (runs_of t m) → From (has_mark m begins) (plan_run t m) (node_count t) r
  mem_from r h = chosen_from (has_mark m begins) (plan_run t m) (node_count t) r (rw (runs_of-chosen t m) at h)

  pub runs_mem : (u : ℕ) → 1 ≤ u → u ≤ node_count t → has_mark m begins u ≡ true → Mem (plan_run t m u) (runs_of t m)
  runs_mem u low high e =
      rw (runs_of-chosen t m) (chosen_mem (has_mark m begins) (plan_run t m) (node_count t) u low high e)

  -- a node is in the run of the node that begins it, and in no other
  members_count : (v : ℕ)
      → count_of (is_member t v) (runs_of t m)
      ≡ count_to (node_count t) (λ u. has_mark m begins u && is_member t v (plan_run t m u))
  members_count v =
      rw (runs_of-chosen t m) (count_of_chosen (has_mark m begins) (plan_run t m) (is_member t v) (node_count t))

  in_one : (v : ℕ) → 1 ≤ v → v ≤ node_count t → in_run m v ≡ true → count_of (is_member t v) (runs_of t m) ≡ 1
  in_one v low high e =
      let h : FirstInRun t m v = first_in_run s m good v low high e in
      let top : h.first ≤ node_count t = omega (arith, h.high) in
      let own : (has_mark m begins h.first && is_member t v (plan_run t m h.first)) ≡ true =
      rw (h.mark, goes_member s m h.first v h.low top h.goes) in
      members_count v
      ∙ count_to_only (λ u. has_mark m begins u && is_member t v (plan_run t m u)) (node_count t) h.first h.low top own
      (λ u low' high' q.
      let b = both_true (has_mark m begins u) (is_member t v (plan_run t m u)) q in
      goes_one s m u h.first v low' high' h.low top b.0 h.mark (member_goes s m u v low' high' b.1)
      h.goes)

  not_member : (v : ℕ) → in_run m v ≡ false → (u : ℕ) → 1 ≤ u → u ≤ node_count t → has_mark m begins u ≡ true
      → is_member t v (plan_run t m u) ≡ false
  not_member v e u low high a = go (is_member t v (plan_run t m u)) refl
    where
      go : (b : Bool) → is_member t v (plan_run t m u) ≡ b → is_member t v (plan_run t m u) ≡ false
      go true q = absurd (true≢false (sym (goes_in_run s m u v a (member_goes s m u v low high q)) ∙ e))
      go false q = q

  in_none : (v : ℕ) → in_run m v ≡ false → count_of (is_member t v) (runs_of t m) ≡ 0
  in_none v e =
      members_count v
      ∙ count_to_none (node_count t) (λ u. has_mark m begins u && is_member t v (plan_run t m u))
      (λ u low high. go u low high (has_mark m begins u) refl)
    where
      go : (u : ℕ) → 1 ≤ u → u ≤ node_count t → (b : Bool) → has_mark m begins u ≡ b
          → (has_mark m begins u && is_member t v (plan_run t m u)) ≡ false
      go u low high true q = rw q (not_member v e u low high q)
      go u low high false q = rw q

  root_run_lem : plan_run t m 1 ≡ root_run
  root_run_lem =
      run_path {r = plan_run t m 1} {r' = root_run} refl
      (ends_run_last s m 1 1 (omega arith) s.count_low
      (record { goes = here; stops = λ a e. omega (arith, s.root_alone) }))

  pub runs_facts : HoldFacts t (runs_of t m)
  runs_facts =
      record {
        each =
            λ r h. let f = mem_from r h in
            rw f.same (plan_run-facts s m f.number f.low f.high);
        root = rw root_run_lem at (runs_mem 1 (omega arith) s.count_low (root_begins s m good));
        once = λ v low high. go v low high (in_run m v) refl;
      }
    where
      go : (v : ℕ) → 1 ≤ v → v ≤ node_count t → (b : Bool) → in_run m v ≡ b → count_of (is_member t v) (runs_of t m) ≤ 1
      go v low high true q = omega (arith, in_one v low high q)
      go v low high false q = omega (arith, in_none v q)

  pub runs_hold : holds t (runs_of t m) ≡ true
  runs_hold = facts_holds s (runs_of t m) runs_facts

  -- ---- Homes and pages

  zero_none : run_with t (runs_of t m) 0 ≡ None
  zero_none = run_with_zero s (runs_of t m) runs_facts

  pub run_with_goes : (u v : ℕ) → 1 ≤ u → u ≤ node_count t → has_mark m begins u ≡ true → Goes t m u v
      → run_with t (runs_of t m) v ≡ Some u
  run_with_goes u v low high e r =
      run_with_at s (runs_of t m) runs_facts v (plan_run t m u) (runs_mem u low high e) (goes_member s m u v low high r)

  pub run_with_out : (v : ℕ) → in_run m v ≡ false → run_with t (runs_of t m) v ≡ None
  run_with_out v e = none_run_with t (runs_of t m) v (λ r h. go r (mem_from r h))
    where
      go : (r : Run) → From (has_mark m begins) (plan_run t m) (node_count t) r → is_member t v r ≡ false
      go r f = ap (is_member t v) f.same ∙ not_member v e f.number f.low f.high f.passed

  goes_page : {u v : ℕ} → Goes t m u v → 1 ≤ u → u ≤ node_count t → page_of t m v ≡ page_of t m u
  goes_page here low high = refl
  goes_page {u} (step a p r) low high =
      goes_page r a (next_le s u low high)
      ∙ page_of_continues t m (next_at t u) a p
      ∙ ap (page_of t m) (next_prev s u (next_at t u) low high a refl)

  abbrev HomePage : ℕ → Type 0
  HomePage v = 1 ≤ v → v ≤ node_count t → OnPage t m v

  -- a node's home is the node that begins its page
  home_page : (v : ℕ) → HomePage v
  home_page = by_earlier HomePage (λ v earlier low high. go v earlier low high (in_run m v) refl)
    where
      go : (v : ℕ) → ((u : ℕ) → u < v → HomePage u) → 1 ≤ v → v ≤ node_count t → (b : Bool) → in_run m v ≡ b
          → OnPage t m v
      go v earlier low high true e =
          let h : FirstInRun t m v = first_in_run s m good v low high e in
          let top : h.first ≤ node_count t = omega (arith, h.high) in
          let with_first = run_with_goes h.first v h.low top h.mark h.goes in
          record {
            first = h.first;
            low = h.low;
            high = h.high;
            mark = h.mark;
            home = home_run t (runs_of t m) zero_none v h.first low with_first;
            page = goes_page h.goes h.low top ∙ page_of_begins t m h.first h.low h.mark;
          }
      go v earlier low high false e =
          let q = in_run_neither m v e in
          let less : parent_at t v < v = parent_at_less t v low in
          let p : OnPage t m (parent_at t v) =
          earlier (parent_at t v) less (parent_low s v (not_root s m good v low q.0) high) (omega arith) in
          record {
            first = p.first;
            low = p.low;
            high = omega (arith, p.high);
            mark = p.mark;
            home = home_up t (runs_of t m) zero_none v low (run_with_out v e) ∙ p.home;
            page = page_of_stays t m v low q.0 q.1 ∙ p.page;
          }

  -- ---- Weights

  weight_first : (u : ℕ) (r : Run) → r.first ≡ u → has_mark m begins u ≡ true
      → run_weight t (runs_of t m) r ≡ page_weight t m (count_to u (has_mark m begins))
  unfolding run_weight page_weight
  weight_first u r same e =
      sum_to_cong (node_count t) (λ v. pick (eqb (home_of t (runs_of t m) v) r.first) (weight_at t v) 0)
      (λ v. pick (eqb (page_of t m v) (count_to u (has_mark m begins))) (weight_at t v) 0)
      (λ v low high. ap (λ b. pick b (weight_at t v) 0) (test v (home_page v low high)))
    where
      test : (v : ℕ) → OnPage t m v → eqb (home_of t (runs_of t m) v) r.first
          ≡ eqb (page_of t m v) (count_to u (has_mark m begins))
      test v p =
          same_true (eqb (home_of t (runs_of t m) v) r.first) (eqb (page_of t m v) (count_to u (has_mark m begins)))
          (λ q. eq-eqb (page_of t m v) (count_to u (has_mark m begins))
          (p.page
          ∙ ap (λ x. count_to x (has_mark m begins))
          (sym p.home ∙ eqb-true (home_of t (runs_of t m) v) r.first q ∙ same)))
          (λ q. eq-eqb (home_of t (runs_of t m) v) r.first
          (p.home
          ∙ count_to_same (has_mark m begins) p.first u p.mark e
          (sym p.page ∙ eqb-true (page_of t m v) (count_to u (has_mark m begins)) q)
          ∙ sym same))

  pub root_weight_lem : root_weight t (runs_of t m) ≡ page_weight t m 1
  root_weight_lem =
      weight_first 1 root_run refl (root_begins s m good)
      ∙ ap (page_weight t m)
      (count_to_yes 0 (has_mark m begins) (root_begins s m good) ∙ ap suc (count_to_zero (has_mark m begins)))

  -- within the limit exactly where no page is heavy
  pub within_heavy : (within_limit t (runs_of t m) ≡ true) ↔ (heavy_page t m ≡ None)
  unfolding within_limit heavy_page page_count
  within_heavy = (
    λ e. first_to_none (count_to (node_count t) (has_mark m begins)) (λ p. ltb (limit_of t) (page_weight t m p))
        (λ p low high.
        let c = ranked (has_mark m begins) (node_count t) p low high in
        let w : run_weight t (runs_of t m) (plan_run t m c.0) ≤ limit_of t =
        leb-true (run_weight t (runs_of t m) (plan_run t m c.0)) (limit_of t)
        (every_all (λ r. leb (run_weight t (runs_of t m) r) (limit_of t)) (runs_of t m) e (plan_run t m c.0)
        (runs_mem c.0 c.1.low c.1.high c.1.passed)) in
        le-ltb (limit_of t) (page_weight t m p)
        (omega (
          arith,
          weight_first c.0 (plan_run t m c.0) refl c.1.passed,
          ap (page_weight t m) c.1.rank,
        ))),
    λ e. all_every (λ r. leb (run_weight t (runs_of t m) r) (limit_of t)) (runs_of t m)
        (λ r h.
        let f = mem_from r h in
        let p : ℕ = count_to f.number (has_mark m begins) in
        let light : page_weight t m p ≤ limit_of t =
        ltb-false (limit_of t) (page_weight t m p)
        (first_to_nowhere (count_to (node_count t) (has_mark m begins)) (λ p. ltb (limit_of t) (page_weight t m p)) e p
        (count_to_some (has_mark m begins) f.number f.number f.low (omega arith) f.passed)
        (count_to_mono (has_mark m begins) f.number (node_count t) f.high)) in
        le-leb (run_weight t (runs_of t m) r) (limit_of t)
        (omega (arith, weight_first f.number r (ap (λ x. x.first) f.same) f.passed))),
  )
