-- The walk with its list of pending links kept as a stack, its top last, in an array: one turn for each thing that the top can be.
-- Assumes nothing.
use Rattle.std.specs.Prelude.{ℕ, zero, suc, ◌+◌, ◌-◌, ◌*◌, ◌≤◌, ◌<◌, ◌≡◌, refl, ◌&&◌, List, [], ◌∷◌, ◌++◌, length, reverse, eqb, ltb}
use Rattle.std.proofs.Common.{ap, ap₂, ◌∙◌, arith, length-append, eq-eqb, ne_eqb, lt-ltb, le-ltb}
use mathlib.Core.Bool.{and-false}
use Rattle.std.proofs.Common.{get_or, set, take, length-set}
use Rattle.std.proofs.Math.Seq.{take-suc}
use Rattle.std.proofs.lemmas.Grind.{take-set_at}
use Rattle.std.proofs.lemmas.List.{reverse-append}
use native.Mathlib.Decide.{dec_lt}
use Rattle.model.specs.Basics.{pick, when}
use Rattle.model.specs.Table.{node_count, first_at, next_at, walk_from, walk_place}
use Rattle.std.specs.declared.option.Option.{Option}
use Rattle.std.specs.declared.option.Option.TheVariants.{Some, None}
use Rattle.theory.specs.Ranges.{pick_false}
use Rattle.theory.specs.TableFacts.{walk_is}

-- the walk of n nodes from a stack on, after the first nodes are met: with the turns left, and one
unfoldable pub walk_on : List ℕ → ℕ → ℕ → List ℕ → Option ℕ
walk_on t n met s = walk_from (suc (2 * (n - met) + length s)) t n met (reverse s)

-- the stack lies in the first h places of an array: its top, and two links pushed
pub stack_top : (s : List ℕ) (h : ℕ) → 0 < h → h ≤ length s → take h s ≡ take (h - 1) s ++ get_or s (h - 1) 0 ∷ []
stack_top s zero low high = absurd (omega arith)
stack_top s (suc h) low high = let below : suc h - 1 ≡ h = omega arith in rw below (take-suc s h 0 (omega arith))

pub stack_pushed : (s : List ℕ) (h x y : ℕ) → h + 1 < length s
    → take (h + 2) (set (set s h x) (h + 1) y) ≡ (take h s ++ x ∷ []) ++ y ∷ []
stack_pushed s h x y long =
    let room : h + 1 < length (set s h x) = simp length-set long in
    take-set_at (set s h x) (h + 1) (h + 2) y (omega arith) room
    ∙ ap (λ (l : List ℕ). l ++ y ∷ []) (take-set_at s h (h + 1) x refl (omega arith))

-- node 1 has a sibling
pub walk_beside : (t : List ℕ) → (next_at t 1 ≡ 0 → ⊥) → walk_place t ≡ Some 0
unfolding walk_place
walk_beside t other = pick_false _ _ _ (ne_eqb (next_at t 1) 0 other)

pub walk_start : (t : List ℕ) → next_at t 1 ≡ 0 → walk_place t ≡ walk_on t (node_count t) 0 (1 ∷ [])
unfolding walk_on
walk_start t alone =
    let turns : 2 * node_count t + 2 ≡ suc (2 * (node_count t - 0) + 1) = omega arith in
    walk_is t alone ∙ ap (λ (f : ℕ). walk_from f t (node_count t) 0 (1 ∷ [])) turns

module _ (t : List ℕ) (n met : ℕ) where
  -- nothing is left to visit: all nodes must have been met
  pub walk_whole : met ≡ n → walk_on t n met [] ≡ None
  unfolding walk_on walk_from when
  walk_whole e = simp (eq-eqb met n e)

  pub walk_short : (met ≡ n → ⊥) → walk_on t n met [] ≡ Some met
  unfolding walk_on walk_from when
  walk_short e = simp (ne_eqb met n e)

  module _ (s : List ℕ) where
    on_top : (v : ℕ) → walk_on t n met (s ++ v ∷ [])
        ≡ walk_from (suc (suc (2 * (n - met) + length s))) t n met (v ∷ reverse s)
    unfolding walk_on
    on_top v =
        let turns : suc (2 * (n - met) + length (s ++ v ∷ [])) ≡ suc (suc (2 * (n - met) + length s)) =
        omega (arith, length-append s (v ∷ [])) in
        ap₂ (λ (f : ℕ) (l : List ℕ). walk_from f t n met l) turns (reverse-append s (v ∷ []))

    -- the end of a chain is dropped
    pub turn_end : walk_on t n met (s ++ 0 ∷ []) ≡ walk_on t n met s
    unfolding walk_on walk_from
    turn_end = on_top 0

    next_met : met < n → walk_on t n met (s ++ suc met ∷ [])
        ≡ walk_on t n (suc met) ((s ++ next_at t (suc met) ∷ []) ++ first_at t (suc met) ∷ [])
    unfolding walk_on walk_from pick
    next_met m =
        let x : List ℕ = next_at t (suc met) ∷ [] in
        let y : List ℕ = first_at t (suc met) ∷ [] in
        let turns : suc (2 * (n - met) + length s) ≡ suc (2 * (n - suc met) + length ((s ++ x) ++ y)) =
        omega (arith, length-append s x, length-append (s ++ x) y) in
        let links : y ++ (x ++ reverse s) ≡ reverse ((s ++ x) ++ y) =
        rw (reverse-append (s ++ x) y, reverse-append s x) in
        on_top (suc met)
        ∙ simp (eq-eqb met met refl, lt-ltb met n m)
        (ap₂ (λ (f : ℕ) (l : List ℕ). walk_from f t n (suc met) l) turns links)

    -- a node in its turn is met, and its two links take its place
    pub turn_met : (v : ℕ) → v ≡ met + 1 → met < n
        → walk_on t n met (s ++ v ∷ []) ≡ walk_on t n v ((s ++ next_at t v ∷ []) ++ first_at t v ∷ [])
    turn_met v e m = let next : v ≡ suc met = omega arith in rw next (next_met m)

    -- any other link fails the walk
    pub turn_fails : (v : ℕ) → (v ≡ 0 → ⊥) → (v ≡ suc met → met < n → ⊥) → walk_on t n met (s ++ v ∷ []) ≡ Some met
    unfolding walk_from pick
    turn_fails zero z e = absurd (z refl)
    turn_fails (suc v) z e = on_top (suc v) ∙ go (dec_lt met n)
      where
        go : Dec (met < n)
            → pick (eqb v met && ltb met n)
            (walk_from (suc (2 * (n - met) + length s)) t n (suc met)
            (first_at t (suc v) ∷ next_at t (suc v) ∷ reverse s)) (Some met) ≡ Some met
        go (yes h) = simp (ne_eqb v met (λ q. e (ap suc q) h))
        go (no h) = let g : n ≤ met = omega arith in simp (le-ltb met n g, and-false)

pub ruleset turns = (walk_beside, walk_start, walk_whole, walk_short, turn_end, turn_met, turn_fails, stack_top, stack_pushed)
