-- Sequences of runs: what a run is, what `holds` says as plain facts, which run a node is in, and on whose page it is.
-- Defines RunFacts, Inside, FoundRun, HoldFacts. Proves that the first and the last say what is_run and holds say, and
-- the laws of run_with and home_of that name no bound on the steps. Assumes nothing.
use Prim.Native.Nat.{ℕ, zero, suc, ◌≤◌, ◌<◌}
use Rattle.std.proofs.Common.{arith, true≢false, ◌∙◌}
use Rattle.std.specs.Prelude.{Bool, true, false, ◌&&◌, ◌≡◌, List, [], ◌∷◌, eqb, leb}
use Rattle.std.proofs.Math.Path.{refl, sym, ap}
use mathlib.Core.List.Memᴰ
use borrow.Author.Tests.{eqb-true, eq-eqb, leb-true, le-leb}
use Rattle.model.specs.Basics.{at_place, count_to, every}
use Rattle.model.specs.Table.{node_count}
use Rattle.model.specs.Plan.{parent_at}
use Rattle.model.specs.Runs.{Run, comes_after, is_run, is_member, root_run, is_root_run, count_of, in_one_at_most, holds, run_with}
use Rattle.model.specs.Runs.{home_from, home_of}
use Rattle.std.specs.declared.option.Option.{Option}
use Rattle.std.specs.declared.option.Option.TheVariants.{Some, None}
use Rattle.theory.specs.Bools.{both_true}
use Rattle.theory.specs.Ranges.{Upto, by_earlier, steps_enough, pick_true, pick_false, at_nowhere, at_same}
use Rattle.theory.specs.Ranges.{at_place_at, at_place_nowhere, count_to_all, count_to_full}
use Rattle.theory.specs.TableFacts.{SoundFacts}
use Rattle.theory.specs.TableLinks.{parent_at_none, parent_at_less, parent_low}
use Rattle.theory.specs.SiblingChains.{After, here, reach_le, comes_after-after, after-comes_after}
use Rattle.theory.specs.Lists.{Mem, every_all, all_every, count_of_some, count_of_find, count_of_one}

-- ---- A run

pub record RunFacts (t : List ℕ) (r : Run) : Type 0 where
  pub low : 1 ≤ r.first
  pub high : r.first ≤ node_count t
  pub after : After t r.first r.last

run_facts : (t : List ℕ) (r : Run) → is_run t r ≡ true → RunFacts t r
unfolding is_run
run_facts t r e =
    let c = both_true (leb 1 r.first && leb r.first (node_count t)) (comes_after t r.first r.last) e in
    let b = both_true (leb 1 r.first) (leb r.first (node_count t)) c.0 in
    record {
      low = leb-true 1 r.first b.0;
      high = leb-true r.first (node_count t) b.1;
      after = comes_after-after t r.first r.last c.1;
    }

-- two runs with the same ends are the same
pub run_path : {r r' : Run} → r.first ≡ r'.first → r.last ≡ r'.last → r ≡ r'
run_path p q = λ i. record { first = p i; last = q i }

abbrev pub Inside : List ℕ → ℕ → Run → Type 0
Inside t v r = After t r.first v × After t v r.last

pub member_inside : (t : List ℕ) (v : ℕ) (r : Run) → is_member t v r ≡ true → Inside t v r
unfolding is_member
member_inside t v r e =
    let b = both_true (comes_after t r.first v) (comes_after t v r.last) e in
    (comes_after-after t r.first v b.0, comes_after-after t v r.last b.1)

module _ {t : List ℕ} (s : SoundFacts t) where
  facts_run : (r : Run) → RunFacts t r → is_run t r ≡ true
  unfolding is_run
  facts_run r f =
      rw (
        le-leb 1 r.first f.low,
        le-leb r.first (node_count t) f.high,
        after-comes_after s f.after f.low f.high,
      )

  -- a member is a node of the table
  pub member_range : (v : ℕ) (r : Run) → RunFacts t r → Inside t v r → (1 ≤ v) × (v ≤ node_count t)
  member_range v r f b =
      let range = reach_le s b.0 f.low f.high in (omega (arith, range.0, f.low), range.1)

  pub inside_member : (v : ℕ) (r : Run) → RunFacts t r → Inside t v r → is_member t v r ≡ true
  unfolding is_member
  inside_member v r f b =
      let range = member_range v r f b in
      rw (after-comes_after s b.0 f.low f.high, after-comes_after s b.1 range.0 range.1)

  -- the first node is one
  pub first_member : (r : Run) → RunFacts t r → is_member t r.first r ≡ true
  first_member r f = inside_member r.first r f (here, f.after)

-- ---- The run that a node is in

run_with_nil : (t : List ℕ) (v : ℕ) → run_with t [] v ≡ None
unfolding run_with
run_with_nil t v = refl

run_with_yes : (t : List ℕ) (r : Run) (rs : List Run) (v : ℕ) → is_member t v r ≡ true
    → run_with t (r ∷ rs) v ≡ Some r.first
unfolding run_with
run_with_yes t r rs v e = pick_true (is_member t v r) (Some r.first) (run_with t rs v) e

run_with_no : (t : List ℕ) (r : Run) (rs : List Run) (v : ℕ) → is_member t v r ≡ false
    → run_with t (r ∷ rs) v ≡ run_with t rs v
unfolding run_with
run_with_no t r rs v e = pick_false (is_member t v r) (Some r.first) (run_with t rs v) e

pub record FoundRun (t : List ℕ) (rs : List Run) (v u : ℕ) : Type 0 where
  pub run : Run
  pub listed : Mem run rs
  pub member : is_member t v run ≡ true
  pub first : run.first ≡ u

pub run_with_found : (t : List ℕ) (rs : List Run) (v u : ℕ) → run_with t rs v ≡ Some u → FoundRun t rs v u
run_with_found t [] v u e = absurd (at_nowhere u (sym e ∙ run_with_nil t v))
run_with_found t (r ∷ rs) v u e = go (is_member t v r) refl (run_with_found t rs v u)
  where
    go : (b : Bool) → is_member t v r ≡ b → (run_with t rs v ≡ Some u → FoundRun t rs v u) → FoundRun t (r ∷ rs) v u
    go true q ih =
        record { run = r; listed = Memᴰ.head refl; member = q; first = at_same (sym (run_with_yes t r rs v q) ∙ e) }
    go false q ih =
        let f : FoundRun t rs v u = ih (sym (run_with_no t r rs v q) ∙ e) in
        record { run = f.run; listed = Memᴰ.tail f.listed; member = f.member; first = f.first }

pub run_with_none : (t : List ℕ) (rs : List Run) (v : ℕ) → run_with t rs v ≡ None → (r : Run) → Mem r rs
    → is_member t v r ≡ false
run_with_none t [] v e r h = absurd (Memᴰ.not-nil h)
run_with_none t (x ∷ rs) v e r h = go (is_member t v x) refl h (run_with_none t rs v)
  where
    go : (b : Bool) → is_member t v x ≡ b → Mem r (x ∷ rs)
        → (run_with t rs v ≡ None → (r' : Run) → Mem r' rs → is_member t v r' ≡ false) → is_member t v r ≡ false
    go true q m ih = absurd (at_nowhere x.first (sym (run_with_yes t x rs v q) ∙ e))
    go false q (Memᴰ.head p) ih = ap (is_member t v) p ∙ q
    go false q (Memᴰ.tail m) ih = ih (sym (run_with_no t x rs v q) ∙ e) r m

pub none_run_with : (t : List ℕ) (rs : List Run) (v : ℕ) → ((r : Run) → Mem r rs → is_member t v r ≡ false)
    → run_with t rs v ≡ None
none_run_with t [] v h = run_with_nil t v
none_run_with t (x ∷ rs) v h =
    run_with_no t x rs v (h x (Memᴰ.head refl)) ∙ none_run_with t rs v (λ r m. h r (Memᴰ.tail m))

-- ---- What `holds` says

pub record HoldFacts (t : List ℕ) (rs : List Run) : Type 0 where
  pub each : (r : Run) → Mem r rs → RunFacts t r
  pub root : Mem root_run rs
  pub once : Upto (node_count t) (λ v. count_of (is_member t v) rs ≤ 1)

root_is : (r : Run) → is_root_run r ≡ true → root_run ≡ r
root_is r e =
    let b = both_true (eqb r.first 1) (eqb r.last 1) e in
    run_path {r = root_run} {r' = r} (sym (eqb-true r.first 1 b.0)) (sym (eqb-true r.last 1 b.1))

mem_of : {r r' : Run} {rs : List Run} → r ≡ r' → Mem r' rs → Mem r rs
mem_of e h = rw e h

pub holds_facts : (t : List ℕ) (rs : List Run) → holds t rs ≡ true → HoldFacts t rs
unfolding holds
holds_facts t rs e =
    let c =
    both_true (every (is_run t) rs && leb 1 (count_of is_root_run rs))
    (eqb (count_to (node_count t) (in_one_at_most t rs)) (node_count t)) e in
    let b = both_true (every (is_run t) rs) (leb 1 (count_of is_root_run rs)) c.0 in
    let one = count_of_find is_root_run rs (leb-true 1 (count_of is_root_run rs) b.1) in
    let all =
    count_to_full (node_count t) (in_one_at_most t rs)
    (eqb-true (count_to (node_count t) (in_one_at_most t rs)) (node_count t) c.1) in
    record {
      each = λ r h. run_facts t r (every_all (is_run t) rs b.0 r h);
      root = mem_of (root_is one.0 one.2) one.1;
      once = λ v low high. leb-true (count_of (is_member t v) rs) 1 (all v low high);
    }

module _ {t : List ℕ} (s : SoundFacts t) where
  pub facts_holds : (rs : List Run) → HoldFacts t rs → holds t rs ≡ true
  unfolding holds
  facts_holds rs h =
      rw (
        all_every (is_run t) rs (λ r m. facts_run s r (h.each r m)),
        le-leb 1 (count_of is_root_run rs) (count_of_some is_root_run rs root_run h.root refl),
        count_to_all (node_count t) (in_one_at_most t rs)
            (λ v low high. le-leb (count_of (is_member t v) rs) 1 (h.once v low high)),
      )
      (eq-eqb (node_count t) (node_count t) refl)

  module _ (rs : List Run) (h : HoldFacts t rs) where
    -- two runs with a common node are the same
    pub runs_apart : (v : ℕ) (r r' : Run) → Mem r rs → Mem r' rs → is_member t v r ≡ true → is_member t v r' ≡ true
        → r ≡ r'
    runs_apart v r r' m m' e e' =
        let range = member_range s v r (h.each r m) (member_inside t v r e) in
        count_of_one (is_member t v) rs r r' (h.once v range.0 range.1) m m' e e'

    pub run_with_at : (v : ℕ) (r : Run) → Mem r rs → is_member t v r ≡ true → run_with t rs v ≡ Some r.first
    run_with_at v r m e = go (run_with t rs v) refl
      where
        go : (o : Option ℕ) → run_with t rs v ≡ o → run_with t rs v ≡ Some r.first
        go None q = absurd (true≢false (sym e ∙ run_with_none t rs v q r m))
        go (Some u) q =
            let f : FoundRun t rs v u = run_with_found t rs v u q in
            q ∙ ap Some (sym f.first ∙ ap (λ x. x.first) (runs_apart v f.run r f.listed m f.member e))

    -- there is no node 0
    pub run_with_zero : run_with t rs 0 ≡ None
    run_with_zero = none_run_with t rs 0 (λ r m. go r m (is_member t 0 r) refl)
      where
        go : (r : Run) → Mem r rs → (b : Bool) → is_member t 0 r ≡ b → is_member t 0 r ≡ false
        go r m true e = absurd (omega (arith, (member_range s 0 r (h.each r m) (member_inside t 0 r e)).0))
        go r m false e = e

    pub run_with_root : run_with t rs 1 ≡ Some 1
    run_with_root = run_with_at 1 root_run h.root (first_member s root_run (h.each root_run h.root))

-- ---- The page that a node is on

module _ (t : List ℕ) (rs : List Run) (z : run_with t rs 0 ≡ None) where
  home_from_none : (f : ℕ) → home_from f t rs 0 ≡ 0
  unfolding home_from
  home_from_none zero = refl
  home_from_none (suc f) =
      at_place_nowhere (run_with t rs 0) (λ u. u) (home_from f t rs (parent_at t 0)) z
      ∙ ap (home_from f t rs) (parent_at_none t) ∙ home_from_none f

  -- the page is found with v steps or more
  home_from_enough : (f g v : ℕ) → v ≤ f → v ≤ g → home_from f t rs v ≡ home_from g t rs v
  unfolding home_from
  home_from_enough =
      steps_enough (λ f v. home_from f t rs v) (parent_at t) (parent_at_less t)
      (λ f g. home_from_none f ∙ sym (home_from_none g))
      (λ f g v e. ap (at_place (run_with t rs v) (λ u. u)) e)

  -- a node in a run is on that run's page, any other on its parent's page
  pub home_run : (v u : ℕ) → 1 ≤ v → run_with t rs v ≡ Some u → home_of t rs v ≡ u
  unfolding home_of home_from
  home_run zero u low e = absurd (omega arith)
  home_run (suc v) u low e =
      at_place_at (run_with t rs (suc v)) u (λ w. w) (home_from v t rs (parent_at t (suc v))) e

  pub home_up : (v : ℕ) → 1 ≤ v → run_with t rs v ≡ None → home_of t rs v ≡ home_of t rs (parent_at t v)
  unfolding home_of home_from
  home_up zero low e = absurd (omega arith)
  home_up (suc v) low e =
      at_place_nowhere (run_with t rs (suc v)) (λ w. w) (home_from v t rs (parent_at t (suc v))) e
      ∙ home_from_enough v (parent_at t (suc v)) (parent_at t (suc v)) (omega (arith, parent_at_less t (suc v) low))
      (omega arith)

-- the first node of a page is the first of a run
module _ {t : List ℕ} (s : SoundFacts t) (rs : List Run) (h : HoldFacts t rs) where
  abbrev HomeRun : ℕ → Type 0
  HomeRun v = 1 ≤ v → v ≤ node_count t → (r : Run) × Mem r rs × (r.first ≡ home_of t rs v)

  pub home_first : (v : ℕ) → HomeRun v
  home_first = by_earlier HomeRun (λ v earlier low high. go v low high earlier (run_with t rs v) refl)
    where
      z : run_with t rs 0 ≡ None
      z = run_with_zero s rs h

      go : (v : ℕ) → 1 ≤ v → v ≤ node_count t → ((u : ℕ) → u < v → HomeRun u) → (o : Option ℕ) → run_with t rs v ≡ o
          → (r : Run) × Mem r rs × (r.first ≡ home_of t rs v)
      go v low high earlier (Some u) q =
          let found : FoundRun t rs v u = run_with_found t rs v u q in
          (found.run, found.listed, found.first ∙ sym (home_run t rs z v u low q))
      go v low high earlier None q =
          let other : v ≡ 1 → ⊥ = λ e. at_nowhere 1 (sym (run_with_root s rs h) ∙ ap (run_with t rs) (sym e) ∙ q) in
          let two : 2 ≤ v = omega (arith, other) in
          let less : parent_at t v < v = parent_at_less t v low in
          let up = earlier (parent_at t v) less (parent_low s v two high) (omega arith) in
          (up.0, up.1, up.2 ∙ sym (home_up t rs z v low q))
