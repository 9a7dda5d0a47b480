-- Plans of one level: what becomes of a node's children, the last child first, each with its best or its second plan.
-- They do not depend on the start: at start s a plan is usable if s and what stays are within K.
-- Defines Fair, RunSoFar, Level. Proves that a plan where something stays can be made lighter for one page more
-- (lighter_plan). Assumes nothing.
use Rattle.std.specs.Prelude.{ℕ, zero, suc, ◌+◌, ◌≤◌, ◌<◌, ◌≡◌, refl, Bool, false, List, [], ◌∷◌}
use Rattle.std.proofs.Common.{arith}
use Rattle.model.specs.Plan.{stays, begins, continues}
use Rattle.model.specs.Steps.{Child, Choice}
use Rattle.theory.specs.BestGreedy.{Offers, best}

-- every child is within K by its best plan, and its gain is part of its rest
abbrev pub Fair : ℕ → List Child → Type 0
Fair K [] = Unit {0}
Fair K (k ∷ ks) = (k.rest ≤ K) × (k.gain ≤ k.rest) × Fair K ks

-- ---- Plans of one level

-- the run that the last child is in, if it is in one: its weight
pub data RunSoFar : Type 0 where
  no_run : RunSoFar
  a_run : (weight : ℕ) → RunSoFar

-- A plan of a level's children: what becomes of each, the pages that begin (more than the children's best plans
-- have), the sum of the rests that stay, and the run so far.
pub data Level (K : ℕ) : List Child → List Choice → ℕ → ℕ → RunSoFar → Type 0 where
  empty : {n x : ℕ} → n ≡ 0 → x ≡ 0 → Level K [] [] n x no_run
  stay : {k : Child} {ks : List Child} {cs : List Choice} {n x x' : ℕ} {o : RunSoFar}
      → x ≡ x' + k.rest
      → Level K ks cs n x' o
      → Level K (k ∷ ks) (record { mark = stays; second = false } ∷ cs) n x no_run
  begin : {k : Child} {ks : List Child} {cs : List Choice} {b : Bool} {e r n n' x : ℕ} {o : RunSoFar}
      → Offers k b e r → r ≤ K → n ≡ n' + 1 + e
      → Level K ks cs n' x o
      → Level K (k ∷ ks) (record { mark = begins; second = b } ∷ cs) n x (a_run r)
  go : {k : Child} {ks : List Child} {cs : List Choice} {b : Bool} {e r n n' x y y' : ℕ}
      → Offers k b e r → y ≡ y' + r → y ≤ K → n ≡ n' + e
      → Level K ks cs n' x (a_run y')
      → Level K (k ∷ ks) (record { mark = continues; second = b } ∷ cs) n x (a_run y)

pub run_within : {K n x y : ℕ} {ks : List Child} {cs : List Choice} → Level K ks cs n x (a_run y) → y ≤ K
run_within (begin o h e p) = h
run_within (go o e h f p) = h

-- ---- One page more makes a plan lighter

-- a run that is not closed is kept
abbrev Keeps : RunSoFar → RunSoFar → Type 0
Keeps no_run o = Unit {0}
Keeps (a_run y) o = o ≡ a_run y

pub record Lighter (K : ℕ) (ks : List Child) (n x : ℕ) (o : RunSoFar) : Type 0 where
  pub choices : List Choice
  pub sum : ℕ
  pub run : RunSoFar
  pub level : Level K ks choices (n + 1) sum run
  pub lighter : sum < x
  keeps : Keeps o run

-- the last child, of rest a, stays: it begins a run instead, or where it weighs nothing the plan before it is made
-- lighter
lighter_stay : {K n x x' : ℕ} {k : Child} {ks : List Child} {cs : List Choice} {o : RunSoFar}
    → Fair K (k ∷ ks) → x ≡ x' + k.rest → Level K ks cs n x' o → 1 ≤ x → (1 ≤ x' → Lighter K ks n x' o)
    → (a : ℕ) → k.rest ≡ a → Lighter K (k ∷ ks) n x no_run
lighter_stay {k = k} f e l p inner zero q =
    let i : Lighter _ _ _ _ _ = inner (omega arith) in
    let same : i.sum ≡ i.sum + k.rest = omega arith in
    record { choices = _; sum = i.sum; run = no_run; level = stay same i.level; lighter = omega arith; keeps = tt }
lighter_stay {n = n} {x' = x'} f e l p inner (suc a) q =
    let more : n + 1 ≡ n + 1 + 0 = omega arith in
    let begun = begin (best refl refl) f.0 more l in
    record { choices = _; sum = x'; run = a_run _; level = begun; lighter = omega arith; keeps = tt }

pub lighter_plan : {K n x : ℕ} {ks : List Child} {cs : List Choice} {o : RunSoFar} → Fair K ks → Level K ks cs n x o
    → 1 ≤ x → Lighter K ks n x o
lighter_plan f (empty e h) p = absurd (omega arith)
lighter_plan f (stay {k = k} e l) p = lighter_stay f e l p (λ h. lighter_plan f.2 l h) k.rest refl
lighter_plan {n = n} f (begin {e = u} {n' = n'} o h e l) p =
    let i : Lighter _ _ _ _ _ = lighter_plan f.2 l p in
    let more : n + 1 ≡ n' + 1 + 1 + u = omega arith in
    let l' = i.level in
    record { choices = _; sum = i.sum; run = _; level = begin o h more l'; lighter = i.lighter; keeps = refl }
lighter_plan {n = n} f (go {e = u} {n' = n'} o e h q l) p =
    let i : Lighter _ _ _ _ _ = lighter_plan f.2 l p in
    let more : n + 1 ≡ n' + 1 + u = omega arith in
    let gone = go o e h more (rw i.keeps at i.level) in
    record { choices = _; sum = i.sum; run = _; level = gone; lighter = i.lighter; keeps = refl }
