-- Marks by number and by shape say the same: for a table of sound form and as many marks as nodes, no mark is bad just
-- where node 1 has mark 1 and the marks of the tree are allowed.
-- Proves marks_from, weighed_from, allowed_from (the marks of a node with its children and the siblings after it) and
-- marks_bridge. Assumes nothing.
use Prim.Native.Nat.{ℕ, zero, suc, ◌+◌, ◌-◌, ◌≤◌, ◌<◌}
use Rattle.std.proofs.Common.{arith, eq-or-lt_of_le, ◌∙◌, drop-cons}
use Rattle.std.specs.Prelude.{Bool, not, ◌&&◌, ◌||◌, ◌≡◌, ◌↔◌, List, ◌∷◌, length, drop, eqb}
use Rattle.std.proofs.Math.Bool.{true, false}
use Rattle.std.proofs.lemmas.Bool.{false≢true}
use Rattle.std.proofs.Math.Path.{refl, sym, ap}
use Rattle.std.proofs.Math.Logic.{⊎_elim}
use Rattle.std.proofs.Math.Seq.{drop-drop}
use borrow.Author.Tests.{eqb-true, eq-eqb, ne_eqb}
use Rattle.model.specs.Basics.{pick}
use Rattle.model.specs.Table.{node_count, weight_at, label_at, first_at, next_at, Chain, end, node, tree_of}
use Rattle.model.specs.Plan.{prev_at, mark_at, in_run, good_mark, bad_mark}
use Rattle.std.specs.declared.option.Option.TheVariants.{None}
use Rattle.theory.specs.Bools.{three_true}
use Rattle.theory.specs.Ranges.{Upto}
use Rattle.theory.specs.TableFacts.{SoundFacts}
use Rattle.theory.specs.PlanShape.{size, runs, allowed_mark, allowed, joined, weighed}
use Rattle.theory.specs.TableNumbered.{Numbered, none, some, numbered_size, numbered_le, Between, between_join}
use Rattle.theory.specs.TableNumbered.{Rooted, sound_root}
use Rattle.theory.specs.TableLinks.{next_prev, first_prev}
use Rattle.theory.specs.PlanPages.{bad_none, good_first, good_later}

-- ---- The marks of a chain, taken from the marks of the table

-- the marks from node v on
pub marks_from : (m : List ℕ) (v : ℕ) → v < length m → drop v m ≡ mark_at m (suc v) ∷ drop (suc v) m
unfolding mark_at
marks_from m v h = let same : suc v - 1 ≡ v = omega arith in rw same (drop-cons m v 0 h)

-- the mark of node v + 1, those of its children up to some number, and those after them
module _ (m : List ℕ) (v w l : ℕ) (kids next : Chain) (last : ℕ) (ends : last ≡ suc v + size kids)
    (inside : v < length m) where
  pub weighed_from : weighed (node w l kids next) (drop v m)
      ≡ joined (mark_at m (suc v)) w (weighed kids (drop (suc v) m)) (weighed next (drop last m))
  unfolding weighed
  weighed_from = rw (marks_from m v inside, drop-drop (size kids) (suc v) m, ends)

  pub allowed_from : (after : Bool) → allowed after (node w l kids next) (drop v m)
      ≡ (allowed_mark after (mark_at m (suc v)) && allowed false kids (drop (suc v) m)
      && allowed (runs (mark_at m (suc v))) next (drop last m))
  unfolding allowed
  allowed_from after = rw (marks_from m v inside, drop-drop (size kids) (suc v) m, ends)

-- ---- Good marks are allowed marks

-- the sibling just before a node is there, and in a run
unfoldable after_run : List ℕ → List ℕ → ℕ → Bool
after_run t m v = not (eqb (prev_at t v) 0) && in_run m (prev_at t v)

mark_allowed : (after : Bool) (k : ℕ) → pick (eqb k 2) after (eqb k 0 || eqb k 1) ≡ allowed_mark after k
unfolding pick allowed_mark
mark_allowed after zero = refl
mark_allowed after (suc zero) = refl
mark_allowed after (suc (suc zero)) = refl
mark_allowed after (suc (suc (suc k))) =
    rw (
      ne_eqb (suc (suc (suc k))) 2 (λ z. omega arith),
      ne_eqb (suc (suc (suc k))) 0 (λ z. omega arith),
      ne_eqb (suc (suc (suc k))) 1 (λ z. omega arith),
    )

good_allowed : (t m : List ℕ) (v : ℕ) → 2 ≤ v → good_mark t m v ≡ allowed_mark (after_run t m v) (mark_at m v)
unfolding after_run
good_allowed t m v low =
    good_later t m v low ∙ mark_allowed (not (eqb (prev_at t v) 0) && in_run m (prev_at t v)) (mark_at m v)

-- an allowed mark that puts its node in a run is 1 or 2
allowed_runs : (after : Bool) (k : ℕ) → allowed_mark after k ≡ true → (eqb k 1 || eqb k 2) ≡ runs k
unfolding allowed_mark runs
allowed_runs after zero e = refl
allowed_runs after (suc zero) e = refl
allowed_runs after (suc (suc zero)) e = refl
allowed_runs after (suc (suc (suc k))) e = absurd (false≢true e)

after_run-first : (t m : List ℕ) (v : ℕ) → prev_at t v ≡ 0 → after_run t m v ≡ false
unfolding after_run
after_run-first t m v z = rw (eq-eqb (prev_at t v) 0 z)

after_run_later : (t m : List ℕ) (u v : ℕ) → 1 ≤ u → prev_at t v ≡ u
    → after_run t m v ≡ (eqb (mark_at m u) 1 || eqb (mark_at m u) 2)
unfolding after_run in_run
after_run_later t m u v low q = rw (q, ne_eqb u 0 (λ z. omega arith))

module _ {t : List ℕ} (s : SoundFacts t) (m : List ℕ) (long : length m ≡ node_count t) where
  -- a first child comes after no run, and a sibling after what the mark before it says
  first_after : (v : ℕ) → 1 ≤ v → v ≤ node_count t → 1 ≤ first_at t v → after_run t m (first_at t v) ≡ false
  first_after v low high one = after_run-first t m (first_at t v) (first_prev s v (first_at t v) low high one refl)

  next_after : (v : ℕ) (after : Bool) → 1 ≤ v → v ≤ node_count t → allowed_mark after (mark_at m v) ≡ true → 1 ≤ next_at t v
      → after_run t m (next_at t v) ≡ runs (mark_at m v)
  next_after v after low high ok one =
      after_run_later t m v (next_at t v) low (next_prev s v (next_at t v) low high one refl)
      ∙ allowed_runs after (mark_at m v) ok

  -- the marks of a chain are good just where they are allowed
  chain_marks : {v e u : ℕ} {c : Chain} → Numbered t v u c e → (after : Bool) → 1 ≤ v → e ≤ node_count t
      → (1 ≤ u → after_run t m u ≡ after)
      → Between v e (λ x. good_mark t m x ≡ true) ↔ (allowed after c (drop v m) ≡ true)
  unfolding allowed
  chain_marks none after low high before = (λ good. refl, λ ok x a b. absurd (omega arith))
  chain_marks (some {m = v} {e₁ = e₁} {e₂ = e₂} {kids = kids} {next = next} k r) after low high before =
      let le : suc v ≤ e₁ = numbered_le k in
      let le' : e₁ ≤ e₂ = numbered_le r in
      let mark : ℕ = mark_at m (suc v) in
      let here : good_mark t m (suc v) ≡ allowed_mark after mark =
      good_allowed t m (suc v) (omega arith) ∙ ap (λ b. allowed_mark b mark) (before (omega arith)) in
      let all =
      allowed_from m v (weight_at t (suc v)) (label_at t (suc v)) kids next e₁ (numbered_size k) (omega arith) after in
      let below = chain_marks k false (omega arith) (omega arith) (first_after (suc v) (omega arith) (omega arith)) in
      let beside : allowed_mark after mark ≡ true
      → Between e₁ e₂ (λ x. good_mark t m x ≡ true) ↔ (allowed (runs mark) next (drop e₁ m) ≡ true) =
      λ ok. chain_marks r (runs mark) (omega arith) high (next_after (suc v) after (omega arith) (omega arith) ok) in (
        λ good.
            let ok : allowed_mark after mark ≡ true = sym here ∙ good (suc v) (omega arith) (omega arith) in
            all
            ∙ rw (
              ok,
              below.0 (λ x a b. good x (omega arith) (omega arith)),
              (beside ok).0 (λ x a b. good x (omega arith) b),
            ),
        λ ok.
            let parts =
            three_true (allowed_mark after mark) (allowed false kids (drop (suc v) m))
            (allowed (runs mark) next (drop e₁ m)) (sym all ∙ ok) in
            between_join (λ x. good_mark t m x ≡ true) v e₁ e₂ (here ∙ parts.0) (below.1 parts.1)
            ((beside parts.0).1 parts.2),
      )

  -- no mark is bad: node 1 has mark 1, and the marks of the tree are allowed
  pub marks_bridge : (bad_mark t m ≡ None) ↔ ((mark_at m 1 ≡ 1) × (allowed false (tree_of t) m ≡ true))
  unfolding allowed allowed_mark
  marks_bridge = (
    λ e.
        let good : Upto (node_count t) (λ v. good_mark t m v ≡ true) = (bad_none t m).0 e in
        let one : mark_at m 1 ≡ 1 =
        eqb-true (mark_at m 1) 1 (sym (good_first t m) ∙ good 1 (omega arith) s.count_low) in
        let below : allowed false kids (drop 1 m) ≡ true = later.0 (λ x a b. good x (omega arith) b) in
        (one, tree ∙ rw (one, below)),
    λ h.
        let parts =
        three_true (allowed_mark false (mark_at m 1)) (allowed false kids (drop 1 m)) true (sym tree ∙ h.1) in
        (bad_none t m).1
        (λ v low high.
        ⊎_elim (λ q. rw (← q) (good_first t m ∙ eq-eqb (mark_at m 1) 1 h.0))
        (λ two. later.1 parts.1 v two high) (eq-or-lt_of_le low)),
  )
    where
      root : Rooted t
      root = sound_root s

      kids : Chain
      kids = root.kids

      tree : allowed false (tree_of t) m ≡ (allowed_mark false (mark_at m 1) && allowed false kids (drop 1 m) && true)
      tree =
          ap (λ c. allowed false c m) root.shape
          ∙ allowed_from m 0 (weight_at t 1) (label_at t 1) kids end (node_count t) (numbered_size root.below)
          (omega (arith, s.count_low))
          false

      later : Between 1 (node_count t) (λ x. good_mark t m x ≡ true) ↔ (allowed false kids (drop 1 m) ≡ true)
      later =
          chain_marks root.below false (omega arith) (omega arith) (first_after 1 (omega arith) s.count_low)
