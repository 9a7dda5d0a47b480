-- The depth-first planner by node number: one pass over the nodes in their order, which keeps the current page.
-- Defines page_to (the current page after the nodes 1 to v). Proves, of the plan of an accepted tree: depth_long (a mark
-- a node), depth_mark (each node's mark by the current page before it), depth_begins, depth_joins and depth_home (the
-- current page with the node, and that the node is on it), depth_within (no page outgrows the limit on the way) and
-- depth_first_judged (the plan is feasible). Assumes nothing.
use Prim.Native.Nat.{ℕ, zero, suc, ◌+◌, ◌-◌, ◌≤◌, ◌<◌}
use native.Mathlib.Omega.{arith}
use Rattle.std.specs.Prelude.{Bool, not, ◌||◌, ◌≡◌, length, drop, leb}
use Rattle.std.proofs.Math.Bool.{true, false}
use Rattle.std.proofs.Math.Path.{refl, ap}
use Rattle.std.proofs.Common.{sym, ◌∙◌, ap₂, ⊎_elim, length-append}
use mathlib.Core.List.{List, [], ◌∷◌, ◌++◌, append_assoc, append-nil}
use Rattle.std.proofs.Math.Dec.{eqb, ltb}
use borrow.Author.Tests.{eqb-true, eqb-false, eq-eqb, ne_eqb, leb-true, le-ltb, not-true}
use Rattle.model.specs.Basics.{pick, count_to}
use Rattle.model.specs.Table.{node_count, limit_of, weight_at, first_at, next_at, Chain, end, node, tree_of}
use Rattle.model.specs.Plan.{prev_at, parent_at, stays, begins, continues, mark_at, has_mark, in_run, good_mark, page_of}
use Rattle.model.specs.Plan.{page_count, page_weight, heavy_page}
use Rattle.model.specs.Steps.{Page, joins, page_mark, page_with, page_after, lay_depth_first, depth_first_marks}
use Rattle.theory.specs.Bools.{bool_cases, and_true, three_true, either_true}
use Rattle.theory.specs.Ranges.{Upto, by_earlier, pick_true, pick_false, sum_to_none, count_to_zero, count_to_yes}
use Rattle.theory.specs.Ranges.{count_to_no, first_to_none}
use Rattle.theory.specs.Chosen.{count_to_mono}
use Rattle.theory.specs.TableFacts.{SoundFacts, AcceptedFacts}
use Rattle.theory.specs.TableNumbered.{Numbered, none, some, numbered_le, Between, between_join, sound_tree}
use Rattle.theory.specs.TableNumbered.{tree_size}
use Rattle.theory.specs.TableLinks.{next_prev, first_prev, next_parent, first_parent, prev_at_one, prev_at_less}
use Rattle.theory.specs.TableLinks.{parent_at_one, parent_at_later}
use Rattle.theory.specs.PlanShape.{size}
use Rattle.theory.specs.PlanPass.{step_back, back_less, page_of_none, page_of_step, weight_to, weight_to_zero}
use Rattle.theory.specs.PlanPass.{weight_to-on, weight_to_off}
use Rattle.theory.specs.PlanPages.{page_of_begins, page_of_continues, page_of_stays, bad_none, good_first}
use Rattle.theory.specs.PlanPages.{good_later}
use Rattle.theory.specs.PlanMarks.{marks_from}
use Rattle.theory.specs.PlanFeasible.{Judged}

-- ---- A node and the current page

-- a node of weight w joins the current page p by its parent, or by the sibling before it, or begins a page: its mark,
-- and the current page with it
data Joining (K w up back : ℕ) (p : Page) : ℕ → Page → Type 0 where
  by_parent : up ≡ p.number → 1 ≤ p.number → p.weight + w ≤ K
      → Joining K w up back p stays (record { number = p.number; weight = p.weight + w })
  by_sibling : (up ≡ p.number → ⊥) → back ≡ p.number → 1 ≤ p.number → p.weight + w ≤ K
      → Joining K w up back p continues (record { number = p.number; weight = p.weight + w })
  alone : Joining K w up back p begins (record { number = suc p.number; weight = w })

module _ (K w up back : ℕ) (p : Page) where
  abbrev Joined : ℕ → Page → Type 0
  Joined = Joining K w up back p

  page_joined : (j : Bool) → joins K w up back p ≡ j
      → Joined (pick j (pick (eqb up p.number) stays continues) begins)
      (pick j (record { number = p.number; weight = p.weight + w }) (record { number = suc p.number; weight = w }))
  unfolding joins pick
  page_joined false e = alone
  page_joined true e = by (eqb up p.number) refl
    where
      parts : (not (eqb p.number 0) ≡ true) × (leb (p.weight + w) K ≡ true)
          × ((eqb up p.number || eqb back p.number) ≡ true)
      parts =
          three_true (not (eqb p.number 0)) (leb (p.weight + w) K) (eqb up p.number || eqb back p.number) e

      low : 1 ≤ p.number
      low =
          let some_page : p.number ≡ 0 → ⊥ = eqb-false p.number 0 (not-true (eqb p.number 0) parts.0) in
          omega arith

      fits : p.weight + w ≤ K
      fits = leb-true (p.weight + w) K parts.1

      by : (b : Bool) → eqb up p.number ≡ b
          → Joined (pick b stays continues) (record { number = p.number; weight = p.weight + w })
      by true q = by_parent (eqb-true up p.number q) low fits
      by false q =
          let other : up ≡ p.number → ⊥ = eqb-false up p.number q in
          ⊎_elim (λ same. absurd (other (eqb-true up p.number same)))
          (λ same. by_sibling other (eqb-true back p.number same) low fits)
          (either_true (eqb up p.number) (eqb back p.number) parts.2)

  node_joins : Joined (page_mark K w up back p) (page_with K w up back p)
  unfolding page_mark page_with
  node_joins = page_joined (joins K w up back p) refl

-- the current page stays within K
joined_within : {K w up back k : ℕ} {p q : Page} → Joining K w up back p k q → w ≤ K → q.weight ≤ K
joined_within (by_parent same low fits) light = fits
joined_within (by_sibling other same low fits) light = fits
joined_within alone light = light

-- where the node begins a page, that is the current page, and else it has the node's weight besides
joined_begins : {K w up back k : ℕ} {p q : Page} → Joining K w up back p k q → k ≡ 1
    → q ≡ record { number = suc p.number; weight = w }
joined_begins (by_parent same low fits) e = absurd (omega arith)
joined_begins (by_sibling other same low fits) e = absurd (omega arith)
joined_begins alone e = refl

joined_on : {K w up back k : ℕ} {p q : Page} → Joining K w up back p k q → (k ≡ 1 → ⊥)
    → q ≡ record { number = p.number; weight = p.weight + w }
joined_on (by_parent same low fits) other = refl
joined_on (by_sibling apart same low fits) other = refl
joined_on alone other = absurd (other refl)

-- ---- The current page after the nodes 1 to v

-- it is the page begun last
abbrev pub page_to : List ℕ → List ℕ → ℕ → Page
page_to t m v =
    record { number = count_to v (has_mark m begins); weight = weight_to v t m (count_to v (has_mark m begins)) }

page_same : {n n' w w' : ℕ} → n ≡ n' → w ≡ w'
    → ◌≡◌ {A = Page} (record { number = n; weight = w }) (record { number = n'; weight = w' })
page_same e h = ap₂ (λ (n w : ℕ). record { number = n; weight = w }) e h

page_none : (t m : List ℕ) → page_to t m 0 ≡ record { number = 0; weight = 0 }
page_none t m = page_same (count_to_zero (has_mark m begins)) (weight_to_zero t m (count_to 0 (has_mark m begins)))

module _ (t m : List ℕ) where
  -- a node's page was begun no later than the node
  begun : (v : ℕ) → page_of t m v ≤ count_to v (has_mark m begins)
  begun = by_earlier (λ v. page_of t m v ≤ count_to v (has_mark m begins)) turn
    where
      turn : (v : ℕ) → ((u : ℕ) → u < v → page_of t m u ≤ count_to u (has_mark m begins))
          → page_of t m v ≤ count_to v (has_mark m begins)
      turn zero earlier = omega (arith, page_of_none t m)
      turn (suc v) earlier =
          let u : ℕ = step_back t m (suc v) in
          let less : u < suc v = back_less t m (suc v) (omega arith) in
          let step = page_of_step t m (suc v) (omega arith) in
          ⊎_elim (λ e. omega (arith, step ∙ pick_true (has_mark m begins (suc v)) _ _ e))
          (λ e.
          omega (
            arith,
            step ∙ pick_false (has_mark m begins (suc v)) _ _ e,
            earlier u less,
            count_to_mono (has_mark m begins) u (suc v) (omega arith),
          ))
          (bool_cases (has_mark m begins (suc v)))

  -- nothing is yet on the page that is begun next
  next_empty : (v : ℕ) → weight_to v t m (suc (count_to v (has_mark m begins))) ≡ 0
  unfolding weight_to
  next_empty v =
      let n : ℕ = count_to v (has_mark m begins) in
      sum_to_none v (λ u. pick (eqb (page_of t m u) (suc n)) (weight_at t u) 0)
      (λ u low high.
      pick_false (eqb (page_of t m u) (suc n)) (weight_at t u) 0
      (ne_eqb (page_of t m u) (suc n) (λ e. omega (arith, begun u, count_to_mono (has_mark m begins) u v high))))

  -- how node v + 1 joins
  abbrev Joins : ℕ → ℕ → Page → Type 0
  Joins v = Joining (limit_of t) (weight_at t (suc v)) (page_of t m (parent_at t (suc v)))
      (page_of t m (prev_at t (suc v))) (page_to t m v)

  -- the current page with it is q, and it is on that page
  record PageStep (v : ℕ) (q : Page) : Type 0 where
    current : page_to t m (suc v) ≡ q
    home : page_of t m (suc v) ≡ q.number

  module _ (v : ℕ) where
    abbrev n : ℕ
    n = count_to v (has_mark m begins)

    abbrev Stepped : ℕ → ℕ → Type 0
    Stepped number weight = PageStep v (record { number = number; weight = weight })

    stepped : (p x : ℕ) → count_to (suc v) (has_mark m begins) ≡ p → page_of t m (suc v) ≡ p
        → weight_to v t m p + weight_at t (suc v) ≡ x → Stepped p x
    stepped p x count page e =
        record {
          current = page_same count (ap (weight_to (suc v) t m) count ∙ weight_to-on v t m p page ∙ e);
          home = page;
        }

    -- a node that begins no page
    on_current : (k : ℕ) → mark_at m (suc v) ≡ k → (k ≡ 1 → ⊥) → page_of t m (suc v) ≡ n
        → Stepped n (weight_to v t m n + weight_at t (suc v))
    on_current k e other page =
        stepped n (weight_to v t m n + weight_at t (suc v))
        (count_to_no v (has_mark m begins) (ne_eqb (mark_at m (suc v)) 1 (λ z. other (sym e ∙ z)))) page refl

    page_step : {k : ℕ} {q : Page} → Joins v k q → mark_at m (suc v) ≡ k → PageStep v q
    page_step (by_parent same low fits) e =
        on_current 0 e (λ z. omega arith)
        (page_of_stays t m (suc v) (omega arith) (ne_eqb (mark_at m (suc v)) 1 (λ z. omega arith))
        (ne_eqb (mark_at m (suc v)) 2 (λ z. omega arith))
        ∙ same)
    page_step (by_sibling other same low fits) e =
        on_current 2 e (λ z. omega arith)
        (page_of_continues t m (suc v) (omega arith) (eq-eqb (mark_at m (suc v)) 2 e) ∙ same)
    page_step alone e =
        let new : has_mark m begins (suc v) ≡ true = eq-eqb (mark_at m (suc v)) 1 e in
        let more : count_to (suc v) (has_mark m begins) ≡ suc n = count_to_yes v (has_mark m begins) new in
        stepped (suc n) (weight_at t (suc v)) more (page_of_begins t m (suc v) (omega arith) new ∙ more)
        (omega (arith, next_empty v))

-- ---- The marks laid from the root down are those of the pass

-- the mark of node v by the current page before it
abbrev DepthMark : List ℕ → List ℕ → ℕ → Type 0
DepthMark t m v =
    mark_at m v ≡ page_mark (limit_of t) (weight_at t v) (page_of t m (parent_at t v)) (page_of t m (prev_at t v))
    (page_to t m (v - 1))

module _ {t : List ℕ} (s : SoundFacts t) (m : List ℕ) (long : length m ≡ node_count t) where
  abbrev K : ℕ
  K = limit_of t

  -- the nodes v + 1 to e have the marks of the pass, the current page is then q, and the marks after them are `rest`
  record Passed (v e : ℕ) (q : Page) (rest : List ℕ) : Type 0 where
    marks : Between v e (DepthMark t m)
    current : page_to t m e ≡ q
    after : drop e m ≡ rest

  -- node v + 1, with its children and the siblings after it, under a parent on page `up` and after a sibling on page
  -- `back`, where p is the current page
  module _ (v up back : ℕ) (p : Page) (kids next : Chain) (rest : List ℕ) where
    abbrev with : Page
    with = page_with K (weight_at t (suc v)) up back p

    abbrev below_page : Page
    below_page = page_after K kids with.number 0 with

    abbrev kids_marks : List ℕ
    kids_marks = lay_depth_first K kids with.number 0 with

    abbrev next_marks : List ℕ
    next_marks = lay_depth_first K next up with.number below_page

    module _ (parent : page_of t m (parent_at t (suc v)) ≡ up) (prior : page_of t m (prev_at t (suc v)) ≡ back)
        (now : page_to t m v ≡ p) (inside : suc v ≤ node_count t)
        (e : drop v m ≡ page_mark K (weight_at t (suc v)) up back p ∷ kids_marks ++ next_marks ++ rest) where
      laid : mark_at m (suc v) ∷ drop (suc v) m
          ≡ page_mark K (weight_at t (suc v)) up back p ∷ kids_marks ++ next_marks ++ rest
      laid = sym (marks_from m v (omega arith)) ∙ e

      mark_laid : mark_at m (suc v)
          ≡ page_mark K (weight_at t (suc v)) (page_of t m (parent_at t (suc v))) (page_of t m (prev_at t (suc v)))
          (page_to t m v)
      mark_laid =
          let both = laid in
          let mark : mark_at m (suc v) ≡ page_mark K (weight_at t (suc v)) up back p = cc in
          rw (parent, prior, now) mark

      page_laid : PageStep t m v with
      page_laid =
          rw (← parent, ← prior, ← now)
          (page_step t m v
          (node_joins K (weight_at t (suc v)) (page_of t m (parent_at t (suc v))) (page_of t m (prev_at t (suc v)))
          (page_to t m v))
          mark_laid)

      rest_laid : drop (suc v) m ≡ kids_marks ++ (next_marks ++ rest)
      rest_laid =
          let both = laid in
          let after : drop (suc v) m ≡ kids_marks ++ next_marks ++ rest = cc in
          after ∙ append_assoc kids_marks next_marks rest

  chain_passed : {v e u : ℕ} {c : Chain} → Numbered t v u c e → (up back : ℕ) (p : Page) (rest : List ℕ)
      → (1 ≤ u → page_of t m (parent_at t u) ≡ up) → (1 ≤ u → page_of t m (prev_at t u) ≡ back) → page_to t m v ≡ p
      → e ≤ node_count t → drop v m ≡ lay_depth_first K c up back p ++ rest
      → Passed v e (page_after K c up back p) rest
  unfolding lay_depth_first page_after
  chain_passed none up back p rest parent prior now high e =
      record { marks = λ u low top. absurd (omega arith); current = now; after = e }
  chain_passed (some {m = v} {e₁ = e₁} {e₂ = e₂} {kids = kids} {next = next} k z) up back p rest parent prior now high
      e =
      let here : 1 ≤ suc v = omega arith in
      let mid : e₁ ≤ e₂ = numbered_le z in
      let inside : suc v ≤ node_count t = omega (arith, numbered_le k) in
      let same : suc v - 1 ≡ v = omega arith in
      let q : Page = with v up back p kids next rest in
      let step : PageStep t m v q = page_laid v up back p kids next rest (parent here) (prior here) now inside e in
      let below =
      chain_passed k q.number 0 q (next_marks v up back p kids next rest ++ rest)
      (λ one. ap (page_of t m) (first_parent s (suc v) (first_at t (suc v)) here inside one refl) ∙ step.home)
      (λ one. ap (page_of t m) (first_prev s (suc v) (first_at t (suc v)) here inside one refl) ∙ page_of_none t m)
      step.current
      (omega arith)
      (rest_laid v up back p kids next rest (parent here) (prior here) now inside e) in
      let later =
      chain_passed z up q.number (below_page v up back p kids next rest) rest
      (λ one. ap (page_of t m) (next_parent s (suc v) (next_at t (suc v)) here inside one refl) ∙ parent here)
      (λ one. ap (page_of t m) (next_prev s (suc v) (next_at t (suc v)) here inside one refl) ∙ step.home)
      below.current
      high
      below.after in
      record {
        marks =
            between_join (DepthMark t m) v e₁ e₂
            (rw same (mark_laid v up back p kids next rest (parent here) (prior here) now inside e))
            below.marks later.marks;
        current = later.current;
        after = later.after;
      }

-- one mark a node
length_laid : (K : ℕ) (c : Chain) (up back : ℕ) (p : Page) → length (lay_depth_first K c up back p) ≡ size c
unfolding lay_depth_first size
length_laid K end up back p = refl
length_laid K (node w l kids next) up back p =
    let q : Page = page_with K w up back p in
    let after : Page = page_after K kids q.number 0 q in
    simp length-append (omega (arith, length_laid K kids q.number 0 q, length_laid K next up q.number after))

-- ---- The plan of an accepted tree

module _ {t : List ℕ} (a : AcceptedFacts t) where
  abbrev plan : List ℕ
  plan = depth_first_marks (limit_of t) (tree_of t)

  pub depth_long : length plan ≡ node_count t
  unfolding depth_first_marks
  depth_long = length_laid (limit_of t) (tree_of t) 0 0 (record { number = 0; weight = 0 }) ∙ tree_size a.sound

  all_passed : Upto (node_count t) (DepthMark t plan)
  unfolding depth_first_marks
  all_passed =
      (chain_passed a.sound plan depth_long (sound_tree a.sound) 0 0 (record { number = 0; weight = 0 }) []
      (λ one. ap (page_of t plan) (parent_at_one t) ∙ page_of_none t plan)
      (λ one. ap (page_of t plan) (prev_at_one t) ∙ page_of_none t plan)
      (page_none t plan)
      (omega arith)
      (sym (append-nil plan))
      ).marks

  -- node v + 1 by the current page before it
  module _ (v : ℕ) (less : v < node_count t) where
    abbrev w : ℕ
    w = weight_at t (suc v)

    abbrev up : ℕ
    up = page_of t plan (parent_at t (suc v))

    abbrev back : ℕ
    back = page_of t plan (prev_at t (suc v))

    pub depth_mark : mark_at plan (suc v) ≡ page_mark (limit_of t) w up back (page_to t plan v)
    depth_mark = let same : suc v - 1 ≡ v = omega arith in rw same at (all_passed (suc v) (omega arith) less)

    joining : Joins t plan v (mark_at plan (suc v)) (page_with (limit_of t) w up back (page_to t plan v))
    joining = rw depth_mark (node_joins (limit_of t) w up back (page_to t plan v))

    step : PageStep t plan v (page_with (limit_of t) w up back (page_to t plan v))
    step = page_step t plan v joining refl

    current_is : page_to t plan (suc v) ≡ page_with (limit_of t) w up back (page_to t plan v)
    current_is = step.current

    pub depth_begins : mark_at plan (suc v) ≡ 1
        → page_to t plan (suc v) ≡ record { number = suc (page_to t plan v).number; weight = w }
    depth_begins e = current_is ∙ joined_begins joining e

    pub depth_joins : (mark_at plan (suc v) ≡ 1 → ⊥)
        → page_to t plan (suc v)
        ≡ record { number = (page_to t plan v).number; weight = (page_to t plan v).weight + w }
    depth_joins other = current_is ∙ joined_on joining other

    pub depth_home : page_of t plan (suc v) ≡ (page_to t plan (suc v)).number
    depth_home = step.home ∙ sym (ap (λ (p : Page). p.number) current_is)

    current_within : (page_to t plan (suc v)).weight ≤ limit_of t
    current_within =
        omega (
          arith,
          ap (λ (p : Page). p.weight) current_is,
          joined_within joining (a.light (suc v) (omega arith) (omega arith)),
        )

  -- no page outgrows the limit on the way
  pub depth_within : (v p : ℕ) → v ≤ node_count t → weight_to v t plan p ≤ limit_of t
  depth_within zero p high = omega (arith, weight_to_zero t plan p)
  depth_within (suc v) p high =
      ⊎_elim
      (λ e.
      let here : (page_to t plan (suc v)).number ≡ p = sym (depth_home v high) ∙ eqb-true (page_of t plan (suc v)) p e in
      rw here at (current_within v high))
      (λ e.
      omega (
        arith,
        weight_to_off v t plan p (eqb-false (page_of t plan (suc v)) p e),
        depth_within v p (omega arith),
      ))
      (bool_cases (eqb (page_of t plan (suc v)) p))

  -- ---- Marks

  -- a sibling that is not on their parent's page is in a run: with mark 0 it would be on that page
  after_run : (v : ℕ) {k : ℕ} {q : Page} → Joins t plan v k q → mark_at plan (suc v) ≡ k
      → (page_of t plan (parent_at t (suc v)) ≡ page_of t plan (suc v) → ⊥) → in_run plan (suc v) ≡ true
  unfolding in_run
  after_run v (by_parent same low fits) e apart =
      absurd
      (apart
      (sym
      (page_of_stays t plan (suc v) (omega arith) (ne_eqb (mark_at plan (suc v)) 1 (λ z. omega arith))
      (ne_eqb (mark_at plan (suc v)) 2 (λ z. omega arith)))))
  after_run v (by_sibling other same low fits) e apart =
      rw (ne_eqb (mark_at plan (suc v)) 1 (λ z. omega arith), eq-eqb (mark_at plan (suc v)) 2 e)
  after_run v alone e apart = rw (eq-eqb (mark_at plan (suc v)) 1 e)

  in_run_lem : (u : ℕ) → 1 ≤ u → u ≤ node_count t → (page_of t plan (parent_at t u) ≡ page_of t plan u → ⊥)
      → in_run plan u ≡ true
  in_run_lem zero low high apart = absurd (omega arith)
  in_run_lem (suc v) low high apart = after_run v (joining v high) refl apart

  first_good : {k : ℕ} {q : Page} → Joins t plan 0 k q → mark_at plan 1 ≡ k → has_mark plan begins 1 ≡ true
  first_good (by_parent same low fits) e = absurd (omega (arith, count_to_zero (has_mark plan begins)))
  first_good (by_sibling other same low fits) e = absurd (omega (arith, count_to_zero (has_mark plan begins)))
  first_good alone e = eq-eqb (mark_at plan 1) 1 e

  later_good : (v : ℕ) → 1 ≤ v → v < node_count t → {k : ℕ} {q : Page} → Joins t plan v k q → mark_at plan (suc v) ≡ k
      → good_mark t plan (suc v) ≡ true
  later_good v one less (by_parent same low fits) e =
      good_later t plan (suc v) (omega arith)
      ∙ pick_false (has_mark plan continues (suc v)) _ _ (ne_eqb (mark_at plan (suc v)) 2 (λ z. omega arith))
      ∙ rw (eq-eqb (mark_at plan (suc v)) 0 e)
  later_good v one less (by_sibling other same low fits) e =
      let u : ℕ = prev_at t (suc v) in
      let before : u < suc v = prev_at_less t (suc v) (omega arith) in
      let there : u ≡ 0 → ⊥ = λ z. omega (arith, ap (page_of t plan) z, page_of_none t plan) in
      let siblings : parent_at t (suc v) ≡ parent_at t u = parent_at_later t (suc v) (omega arith) (omega arith) in
      good_later t plan (suc v) (omega arith)
      ∙ pick_true (has_mark plan continues (suc v)) _ _ (eq-eqb (mark_at plan (suc v)) 2 e)
      ∙ and_true (not (eqb u 0)) (in_run plan u) (ap not (ne_eqb u 0 there))
      (in_run_lem u (omega arith) (omega arith) (λ z. other (ap (page_of t plan) siblings ∙ z ∙ same)))
  later_good v one less alone e =
      good_later t plan (suc v) (omega arith)
      ∙ pick_false (has_mark plan continues (suc v)) _ _ (ne_eqb (mark_at plan (suc v)) 2 (λ z. omega arith))
      ∙ rw (ne_eqb (mark_at plan (suc v)) 0 (λ z. omega arith), eq-eqb (mark_at plan (suc v)) 1 e)

  each_good : Upto (node_count t) (λ v. good_mark t plan v ≡ true)
  each_good zero low high = absurd (omega arith)
  each_good (suc zero) low high = good_first t plan ∙ first_good (joining 0 high) refl
  each_good (suc (suc v)) low high = later_good (suc v) (omega arith) high (joining (suc v) high) refl

  pub depth_first_judged : Judged t plan
  unfolding heavy_page page_weight weight_to
  depth_first_judged =
      record {
        tree = a;
        long = depth_long;
        marked = (bad_none t plan).1 each_good;
        light =
            first_to_none (page_count t plan) (λ p. ltb (limit_of t) (page_weight t plan p))
            (λ p low high. le-ltb (limit_of t) (page_weight t plan p) (depth_within (node_count t) p (omega arith)));
      }
