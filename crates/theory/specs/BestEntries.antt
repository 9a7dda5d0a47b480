-- The level theorem: the entry at a start is a plan of the level (`entry_sound`), and no plan of the level that is
-- usable at that start is better (`entry_least`): neither fewer pages, nor as many and a lighter rest.
-- Defines Usable. Assumes nothing.
use Rattle.std.specs.Prelude.{ℕ, ◌+◌, ◌≤◌, ◌≡◌, refl, Bool, length}
use Rattle.std.proofs.Math.Bool.{true, false}
use mathlib.Core.List.{List, [], ◌∷◌, ◌++◌, reverse_aux, reverse_aux-eq}
use Rattle.std.proofs.Common.{arith}
use Rattle.model.specs.Basics.{pick}
use Rattle.model.specs.Plan.{begins, continues}
use Rattle.model.specs.Steps.{Member, Child, Choice, Entry, rest_sum, taken_count, winner, staying, run_choices, running}
use Rattle.model.specs.Steps.{run_of, stops_at, entry_at, stretched}
use Rattle.theory.specs.BestGreedy.{best, Picked, picked_none, picked_one, Gainful, Spared, run_of_least, RunReduced}
use Rattle.theory.specs.BestGreedy.{reduced_none, reduced_one, reduced_offers, run_of_reduced, picked_goes}
use Rattle.theory.specs.BestLevel.{Fair, RunSoFar, no_run, a_run, Level, empty, stay, begin, go, run_within}
use Rattle.theory.specs.BestCandidates.{AllOf, AnyOf, all_append, any_left, any_right, winner_all, Below}
use Rattle.theory.specs.BestCandidates.{winner_below, stayed, ran, staying_all, staying_any, running_all}
use Rattle.theory.specs.BestCandidates.{running_any}

-- ---- The entry is a plan of the level

record Extended (K : ℕ) (ks : List Child) (cs : List Choice) (n x : ℕ) : Type 0 where
  run : RunSoFar
  level : Level K ks cs n x run

run_goes : {K n' x : ℕ} {run : List Child} {ms : List Member} {ks : List Child} {cs : List Choice} {n y : ℕ}
    → RunReduced run ms → Level K ks cs n x (a_run y) → y + rest_sum ms ≤ K → n' ≡ n + taken_count ms
    → Extended K (reverse_aux run ks) (reverse_aux (run_choices continues ms) cs) n' x
unfolding rest_sum taken_count run_choices
run_goes {n' = n'} {n = n} reduced_none p h e = let q : n' ≡ n = omega arith in rw q (record { run = _; level = p })
run_goes (reduced_one o r) p h e =
    run_goes r (go (reduced_offers o) refl (omega arith) refl p) (omega arith) (omega arith)

-- the entry e at start s is a plan of the level, usable there
pub record Usable (K s : ℕ) (ks : List Child) (e : Entry) : Type 0 where
  pub sum : ℕ
  pub run : RunSoFar
  pub level : Level K ks e.choices e.count sum run
  pub total : e.rest ≡ s + sum
  pub within : e.rest ≤ K

stayed_usable : {K s : ℕ} {k : Child} {ks : List Child} {e : Entry} → Usable K (s + k.rest) ks e
    → Usable K s (k ∷ ks) (stayed e)
stayed_usable {k = k} r =
    let level = stay refl r.level in
    record { sum = r.sum + k.rest; run = no_run; level = level; total = omega arith; within = r.within }

ran_usable : {K s : ℕ} {k : Child} {run ks : List Child} {e : Entry} {ms : List Member}
    → RunReduced (k ∷ run) ms → rest_sum ms ≤ K → Usable K s ks e
    → Usable K s (reverse_aux (k ∷ run) ks) (ran ms e)
unfolding rest_sum taken_count run_choices
ran_usable {e = e} (reduced_one {m = m} {ms = ms} o q) h r =
    let n : ℕ = e.count + 1 + (pick m.taken 1 0 + taken_count ms) in
    let x : Extended _ _ _ n _ =
    run_goes q (begin (reduced_offers o) (omega arith) refl r.level) (omega arith) (omega arith) in
    let level = rw (reverse_aux-eq (run_choices begins (m ∷ ms)) e.choices) at x.level in
    record { sum = r.sum; run = x.run; level = level; total = r.total; within = r.within }

-- the candidates where k begins the run of these members, and where a child to the left of k does
abbrev longer : ℕ → ℕ → List Child → Child → List Child → List Entry
longer K s run k ks = running K (run_of K (k ∷ run)) (entry_at K ks s) ++ stretched K s (k ∷ run) ks

stretched_cons : (K s : ℕ) (run : List Child) (k : Child) (ks : List Child)
    → stretched K s run (k ∷ ks) ≡ pick (stops_at K run) [] (longer K s run k ks)
unfolding stretched
stretched_cons K s run k ks = refl

-- the candidates of the entry at start s
abbrev candidates : ℕ → Child → List Child → ℕ → List Entry
candidates K k ks s = staying K s k (entry_at K ks (s + k.rest)) ++ longer K s [] k ks

entry_at_cons : (K : ℕ) (k : Child) (ks : List Child) (s : ℕ) → entry_at K (k ∷ ks) s ≡ winner s (candidates K k ks s)
unfolding entry_at
entry_at_cons K k ks s = refl

record LevelSound (K : ℕ) (ks : List Child) : Type 0 where
  entry : (s : ℕ) → s ≤ K → Usable K s ks (entry_at K ks s)
  stretch : (s : ℕ) (k : Child) (run : List Child) → s ≤ K → Gainful (k ∷ run)
      → AllOf (Usable K s (reverse_aux (k ∷ run) ks)) (stretched K s (k ∷ run) ks)

level_sound_nil : (K : ℕ) → LevelSound K []
unfolding entry_at stretched
level_sound_nil K =
    record {
      entry = λ s h. record { sum = 0; run = no_run; level = empty refl refl; total = omega arith; within = h };
      stretch = λ s k run h g. tt;
    }

module _ (K : ℕ) (k : Child) (ks : List Child) (f : Fair K (k ∷ ks)) (before : LevelSound K ks) (s : ℕ) (h : s ≤ K)
  where
    longer_sound : (run : List Child) → Gainful run
        → AllOf (Usable K s (reverse_aux (k ∷ run) ks)) (longer K s run k ks)
    longer_sound run g =
        let ms : List Member = run_of K (k ∷ run) in
        let reduced = run_of_reduced K (k ∷ run) (f.1, g) in
        all_append _ (running K ms (entry_at K ks s)) _
        (running_all _ K ms _ (λ w. ran_usable {run = run} reduced w (before.entry s h)))
        (before.stretch s k run h (f.1, g))

    -- there is a candidate: the run of one child is within K
    candidate : AnyOf (λ (c : Entry). Unit {0}) (candidates K k ks s)
    candidate =
        let alone : Spared K 0 (run_of K (k ∷ [])) =
        run_of_least (f.1, tt) (picked_one (best refl refl) refl refl (picked_none refl refl)) (omega arith) in
        any_right _ (staying K s k (entry_at K ks (s + k.rest))) _
        (any_left _ (running K (run_of K (k ∷ [])) (entry_at K ks s)) _ (running_any _ K _ _ alone.within tt))

    entry_sound_cons : Usable K s (k ∷ ks) (entry_at K (k ∷ ks) s)
    entry_sound_cons =
        let P : Entry → Type 0 = Usable K s (k ∷ ks) in
        rw entry_at_cons
        (winner_all P (λ (c : Entry). Unit {0}) s (candidates K k ks s)
        (all_append P (staying K s k (entry_at K ks (s + k.rest))) _
        (staying_all P K s k _ (λ w. stayed_usable (before.entry (s + k.rest) w))) (longer_sound [] tt))
        candidate)

    stretch_sound_cons : (j : Child) (run : List Child) → Gainful (j ∷ run)
        → AllOf (Usable K s (reverse_aux (k ∷ j ∷ run) ks)) (stretched K s (j ∷ run) (k ∷ ks))
    unfolding pick
    stretch_sound_cons j run g = rw stretched_cons (ask (stops_at K (j ∷ run)))
      where
        ask : (b : Bool) → AllOf (Usable K s (reverse_aux (k ∷ j ∷ run) ks)) (pick b [] (longer K s (j ∷ run) k ks))
        ask true = tt
        ask false = longer_sound (j ∷ run) g

level_sound : (K : ℕ) (ks : List Child) → Fair K ks → LevelSound K ks
level_sound K [] f = level_sound_nil K
level_sound K (k ∷ ks) f =
    let before = level_sound K ks f.2 in
    record {
      entry = entry_sound_cons K k ks f before;
      stretch = λ s j run h g. stretch_sound_cons K k ks f before s h j run g;
    }

pub entry_sound : (K : ℕ) (ks : List Child) → Fair K ks → (s : ℕ) → s ≤ K → Usable K s ks (entry_at K ks s)
entry_sound K ks f = (level_sound K ks f).entry

-- ---- No usable plan of the level is better

-- of the entries; and of the candidates whose run goes on to the left of members already chosen for
record LevelLeast (K : ℕ) (ks : List Child) : Type 0 where
  entry : (s : ℕ) {cs : List Choice} {n x : ℕ} {o : RunSoFar} → Level K ks cs n x o → s + x ≤ K
      → Below (entry_at K ks s) n (s + x)
  stretch : (s t : ℕ) {j : Child} {run : List Child} {cs : List Choice} {m z n x y : ℕ}
      → Gainful (j ∷ run) → Picked (j ∷ run) m z → Level K ks cs n x (a_run y) → y + z ≤ K
      → s + x ≤ K → n + m ≤ t
      → AnyOf (λ (c : Entry). Below c t (s + x)) (stretched K s (j ∷ run) ks)

run_members : {K n x y : ℕ} {ks : List Child} {cs : List Choice} → Level K ks cs n x (a_run y) → 1 ≤ length ks
run_members (begin o h e p) = omega arith
run_members (go o e h f p) = omega arith

level_least_nil : (K : ℕ) → LevelLeast K []
unfolding entry_at
level_least_nil K = record { entry = entry; stretch = λ s t g p l w h i. absurd (omega (arith, run_members l)) }
  where
    entry : (s : ℕ) {cs : List Choice} {n x : ℕ} {o : RunSoFar} → Level K [] cs n x o → s + x ≤ K
        → Below (entry_at K [] s) n (s + x)
    entry s (empty e f) h = record { count = omega arith; rest = λ i. omega arith }

-- a run after an entry that is no worse
ran_below : {e : Entry} {n z n' t : ℕ} (ms : List Member) → Below e n z → taken_count ms ≤ t → n + 1 + t ≤ n'
    → Below (ran ms e) n' z
ran_below ms b p q = record { count = omega arith; rest = λ i. b.rest (omega arith) }

module _ {K : ℕ} {k : Child} {ks : List Child} (f : Fair K (k ∷ ks)) (before : LevelLeast K ks) (s : ℕ) where
  longer_least : (t : ℕ) {m z n x y : ℕ} {run : List Child} {cs : List Choice}
      → Gainful run → Picked run m z → Level K (k ∷ ks) cs n x (a_run y) → y + z ≤ K → s + x ≤ K → n + m ≤ t
      → AnyOf (λ (c : Entry). Below c t (s + x)) (longer K s run k ks)
  longer_least t {run = run} g p (begin o a b l) w h i =
      let ms : List Member = run_of K (k ∷ run) in
      let least : Spared K _ ms = run_of_least (f.1, g) (picked_one o refl refl p) (omega arith) in
      any_left _ (running K ms (entry_at K ks s)) _
      (running_any _ K ms (entry_at K ks s) least.within
      (ran_below ms (before.entry s l h) least.fewest (omega arith)))
  longer_least t {run = run} g p (go o a b c l) w h i =
      any_right _ (running K (run_of K (k ∷ run)) (entry_at K ks s)) _
      (before.stretch s t (f.1, g) (picked_one o refl refl p) l (omega arith) h (omega arith))

  run_least : {n x y : ℕ} {cs : List Choice} → Level K (k ∷ ks) cs n x (a_run y) → s + x ≤ K
      → AnyOf (λ (c : Entry). Below c n (s + x)) (candidates K k ks s)
  run_least {n} l h =
      any_right _ (staying K s k (entry_at K ks (s + k.rest))) _
      (longer_least n tt (picked_none refl refl) l (omega (arith, run_within l)) h (omega arith))

  entry_least_cons : {n x : ℕ} {cs : List Choice} {o : RunSoFar} → Level K (k ∷ ks) cs n x o → s + x ≤ K
      → AnyOf (λ (c : Entry). Below c n (s + x)) (candidates K k ks s)
  entry_least_cons (stay e l) h =
      let b = before.entry (s + k.rest) l (omega arith) in
      any_left _ (staying K s k (entry_at K ks (s + k.rest))) _
      (staying_any _ K s k _ (omega arith) (record { count = b.count; rest = λ i. omega (arith, b.rest i) }))
  entry_least_cons (begin o w e l) h = run_least (begin o w e l) h
  entry_least_cons (go o e w q l) h = run_least (go o e w q l) h

level_least : (K : ℕ) (ks : List Child) → Fair K ks → LevelLeast K ks
unfolding pick
level_least K [] f = level_least_nil K
level_least K (k ∷ ks) f =
    let before : LevelLeast K ks = level_least K ks f.2 in
    record {
      entry = λ s {cs} {n} {x} l h.
          rw entry_at_cons (winner_below s (candidates K k ks s) n (s + x) (entry_least_cons f before s l h));
      stretch = λ s t {j} {run} g p l w h i.
          rw (stretched_cons, picked_goes K p (omega arith)) (longer_least f before s t g p l w h i);
    }

pub entry_least : {K n x : ℕ} {ks : List Child} {cs : List Choice} {o : RunSoFar} (s : ℕ) → Fair K ks
    → Level K ks cs n x o → s + x ≤ K → Below (entry_at K ks s) n (s + x)
entry_least {K} {ks = ks} s f l h = (level_least K ks f).entry s l h
