-- The run of a page by its number, as a pass over the nodes finds it: it is that of the node that begins the page.
-- Where no mark is bad, the first node of page p is the last node on it that begins a run, and the last sibling of its
-- run is the last node on it that is in a run.
-- Defines Page (page q's first node), last_on_page. Proves page_first, page_run_lem; last_on_page-on, last_on_page_off;
-- first_found, last_found. Assumes nothing.
use Prim.Native.Nat.{ℕ, suc, ◌-◌, ◌≤◌, ◌<◌}
use native.Mathlib.Omega.{arith}
use Rattle.std.specs.Prelude.{Bool, ◌&&◌, ◌≡◌, refl, List}
use Rattle.std.proofs.Math.Bool.{true, false}
use Rattle.std.proofs.Common.{sym, ◌∙◌, eqb-true, eq-eqb, ne_eqb}
use Rattle.std.proofs.Math.Path.{ap}
use Rattle.std.proofs.Math.Dec.{eqb}
use Rattle.model.specs.Basics.{pick, last_to}
use Rattle.model.specs.Table.{node_count, next_at}
use Rattle.model.specs.Plan.{begins, has_mark, in_run, page_of, page_count, bad_mark, run_last}
use Rattle.model.specs.Runs.{Run, root_run, runs_of, page_run}
use Rattle.std.specs.declared.option.Option.TheVariants.{None}
use Rattle.theory.specs.Bools.{and_true, and_false_left, both_true}
use Rattle.theory.specs.Ranges.{last_to_zero, last_to_suc, last_to_no, last_to_only, last_to_last}
use Rattle.theory.specs.Chosen.{Ranked, ranked, ranked_one, get_d_chosen}
use Rattle.theory.specs.TableFacts.{SoundFacts}
use Rattle.theory.specs.TableLinks.{next_le, next_prev}
use Rattle.theory.specs.SiblingChains.{here, step, reach_le, reach_stop}
use Rattle.theory.specs.PlanPages.{page_of_begins, page_of_continues}
use Rattle.theory.specs.RunsMarked.{Goes, Ends, plan_run, run_last_ends, goes_in_run, FirstInRun, first_in_run}

-- the last of the nodes 1 to n that is on page p and passes the test, or 0
unfoldable pub last_on_page : List ℕ → List ℕ → (ℕ → Bool) → ℕ → ℕ → ℕ
last_on_page t m test n p = last_to n (λ u. eqb (page_of t m u) p && test u)

module _ (t m : List ℕ) (test : ℕ → Bool) where
  pub last_on_page_zero : (p : ℕ) → last_on_page t m test 0 p ≡ 0
  unfolding last_on_page
  last_on_page_zero p = last_to_zero (λ u. eqb (page_of t m u) p && test u)

  -- one more node, on the page or not
  pub last_on_page-on : (v p : ℕ) → page_of t m (suc v) ≡ p
      → last_on_page t m test (suc v) p ≡ pick (test (suc v)) (suc v) (last_on_page t m test v p)
  unfolding last_on_page
  last_on_page-on v p e =
      last_to_suc v (λ u. eqb (page_of t m u) p && test u)
      ∙ ap (λ (b : Bool). pick (b && test (suc v)) (suc v) (last_to v (λ u. eqb (page_of t m u) p && test u)))
      (eq-eqb (page_of t m (suc v)) p e)

  pub last_on_page_off : (v p : ℕ) → (page_of t m (suc v) ≡ p → ⊥)
      → last_on_page t m test (suc v) p ≡ last_on_page t m test v p
  unfolding last_on_page
  last_on_page_off v p other =
      last_to_no v (λ u. eqb (page_of t m u) p && test u)
      (and_false_left (eqb (page_of t m (suc v)) p) (test (suc v)) (ne_eqb (page_of t m (suc v)) p other))

module _ (t m : List ℕ) where
  -- page q's first node
  abbrev pub Page : ℕ → ℕ → Type 0
  Page q b = Ranked (has_mark m begins) (node_count t) q b

  pub page_first : (q : ℕ) → 1 ≤ q → q ≤ page_count t m → (b : ℕ) × Page q b
  unfolding page_count
  page_first q low high = ranked (has_mark m begins) (node_count t) q low high

  -- page q's run
  pub page_run_lem : (q b : ℕ) → 1 ≤ q → Page q b → page_run t m q ≡ plan_run t m b
  unfolding page_run runs_of
  page_run_lem q b low r =
      let back : q ≡ suc (q - 1) = omega arith in
      let rank : Page (suc (q - 1)) b =
      record { low = r.low; high = r.high; passed = r.passed; rank = r.rank ∙ back } in
      get_d_chosen (has_mark m begins) (plan_run t m) (node_count t) b (q - 1) root_run rank

module _ {t : List ℕ} (s : SoundFacts t) (m : List ℕ) where
  -- a run is on one page
  goes_page : {u v : ℕ} → Goes t m u v → 1 ≤ u → u ≤ node_count t → page_of t m v ≡ page_of t m u
  goes_page here low high = refl
  goes_page {u} (step a p r) low high =
      goes_page r a (next_le s u low high) ∙ page_of_continues t m (next_at t u) a p
      ∙ ap (page_of t m) (next_prev s u (next_at t u) low high a refl)

  module _ (good : bad_mark t m ≡ None) (p : ℕ) (low : 1 ≤ p) (high : p ≤ page_count t m) where
    -- the node that begins page p
    abbrev first : ℕ
    first = (page_first t m p low high).0

    begun : Page t m p first
    begun = (page_first t m p low high).1

    first_page : page_of t m first ≡ p
    first_page = page_of_begins t m first begun.low begun.passed ∙ begun.rank

    -- page p's node v that passes the test
    on_page : (test : ℕ → Bool) (v : ℕ) → page_of t m v ≡ p → test v ≡ true → (eqb (page_of t m v) p && test v) ≡ true
    on_page test v e q = and_true (eqb (page_of t m v) p) (test v) (eq-eqb (page_of t m v) p e) q

    -- a node on page p that begins a run begins the page
    begins_one : (v : ℕ) → 1 ≤ v → has_mark m begins v ≡ true → v ≤ node_count t → page_of t m v ≡ p → v ≡ first
    begins_one v l e h q =
        ranked_one (has_mark m begins)
        (record { low = l; high = h; passed = e; rank = sym (page_of_begins t m v l e) ∙ q }) begun

    pub first_found : last_on_page t m (has_mark m begins) (node_count t) p ≡ (page_run t m p).first
    unfolding last_on_page
    first_found =
        last_to_only (node_count t) first (λ u. eqb (page_of t m u) p && has_mark m begins u) begun.low begun.high
        (on_page (has_mark m begins) first first_page begun.passed)
        (λ u l h e.
        let both = both_true (eqb (page_of t m u) p) (has_mark m begins u) e in
        begins_one u l both.1 h (eqb-true (page_of t m u) p both.0))
        ∙ ap (λ (r : Run). r.first) (sym (page_run_lem t m p first low begun))

    ends : Ends t m first (run_last t m first)
    ends = run_last_ends s m first begun.low begun.high

    -- the nodes of page p's run come up to its last
    run_upto : (v : ℕ) → 1 ≤ v → v ≤ node_count t → page_of t m v ≡ p → in_run m v ≡ true → v ≤ run_last t m first
    run_upto v l h q e =
        let f : FirstInRun t m v = first_in_run s m good v l h e in
        let top : f.first ≤ node_count t = omega (arith, f.high) in
        let same : f.first ≡ first =
        begins_one f.first f.low f.mark top (sym (goes_page f.goes f.low top) ∙ q) in
        (reach_le s (reach_stop (rw same at f.goes) ends.goes ends.stops) l h).0

    pub last_found : last_on_page t m (in_run m) (node_count t) p ≡ (page_run t m p).last
    unfolding last_on_page
    last_found =
        let range = reach_le s ends.goes begun.low begun.high in
        last_to_last (node_count t) (run_last t m first) (λ u. eqb (page_of t m u) p && in_run m u)
        (record {
          low = omega (arith, range.0, begun.low);
          high = range.1;
          passed =
              on_page (in_run m) (run_last t m first) (goes_page ends.goes begun.low begun.high ∙ first_page)
              (goes_in_run s m first (run_last t m first) begun.passed ends.goes);
          after = λ u over h. none u over h (eqb (page_of t m u) p && in_run m u) refl;
        })
        ∙ ap (λ (r : Run). r.last) (sym (page_run_lem t m p first low begun))
      where
        none : (u : ℕ) → run_last t m first < u → u ≤ node_count t → (b : Bool) → (eqb (page_of t m u) p && in_run m u) ≡ b
            → (eqb (page_of t m u) p && in_run m u) ≡ false
        none u over h true e =
            let both = both_true (eqb (page_of t m u) p) (in_run m u) e in
            absurd (omega (arith, run_upto u (omega arith) h (eqb-true (page_of t m u) p both.0) both.1))
        none u over h false e = e
