-- Which members `reduce` takes: those with a gain above a level, and the earliest few of those at it. The level
-- follows from the sum, the room and how many members have each gain.
-- Defines taken_off, take_down_to, take_by_level, level_here, level_from, LevelBound.
-- Proves take_down_to_above, take_down_to_at, take_down_to_past, take_down_to_under (member by member), take_down_to_more,
-- take_down_to-below (what a turn does to such a list), level_from_bound and reduce_level. Assumes nothing.
use Prim.Native.Nat.{ℕ, zero, suc, ◌+◌, ◌-◌, ◌≤◌, ◌<◌}
use Rattle.std.specs.Prelude.{◌≡◌, Bool, eqb, ltb}
use Rattle.std.proofs.Math.Path.{refl, sym}
use Rattle.std.proofs.Common.{◌∙◌, inl, inr, zero-add, add-zero}
use Rattle.std.proofs.Math.Bool.{true, false}
use mathlib.Core.List.{List, [], ◌∷◌}
use native.Mathlib.Omega.{arith}
use Rattle.std.proofs.Math.Dec.{leb}
use borrow.Author.Tests.{leb-true, leb-false, eqb-true, eqb-false, ltb-true, ltb-false, lt-ltb, le-ltb, eq-eqb, ne_eqb}
use Rattle.model.specs.Basics.{pick}
use Rattle.model.specs.Steps.{Member, rest_sum, largest_gain, take_earliest, reduce}
use Rattle.theory.specs.Reduce.{EachMember, Earliest, here, there, earliest, off_by}
use Rattle.theory.specs.ReduceCount.{Sound, count_gain, Counted, reduce_stop, reduce_turn, earliest_sound}
use Rattle.theory.specs.ReduceCount.{earliest_rest, earliest_count, earliest_count_other, earliest_largest}
use Rattle.theory.specs.ReduceCount.{largest_below, count_le_largest}
use Rattle.best.specs.declared.lay.GainLevel.{GainLevel}

-- a member whose gain is taken off
abbrev pub taken_off : Member → Member
taken_off m = off_by m.gain m

-- the members, where those above the level g are taken and the earliest t at it
unfoldable pub take_down_to : ℕ → ℕ → List Member → List Member
take_down_to g t [] = []
take_down_to g zero (m ∷ ms) = pick (ltb g m.gain) (taken_off m) m ∷ take_down_to g zero ms
take_down_to g (suc t) (m ∷ ms) =
    pick (ltb g m.gain) (taken_off m ∷ take_down_to g (suc t) ms)
    (pick (eqb m.gain g) (taken_off m ∷ take_down_to g t ms) (m ∷ take_down_to g (suc t) ms))

-- The level of the gain g, of which n are left and t were taken; `next` is the level below it for a sum.
unfoldable pub level_here : ℕ → ℕ → ℕ → ℕ → ℕ → (ℕ → GainLevel) → GainLevel
level_here zero t g room sum next = next sum
level_here (suc n) t g room sum next =
    pick (leb sum room) (record { gain = g; times = t }) (level_here n (suc t) g room (sum - g) next)

-- each gain from g down to 1, of which there are c g
unfoldable pub level_from : ℕ → (ℕ → ℕ) → ℕ → ℕ → GainLevel
level_from zero c room sum = record { gain = 0; times = 0 }
level_from (suc g) c room sum = level_here (c (suc g)) 0 (suc g) room sum (λ s. level_from g c room s)

-- ---- Member by member

module _ (g : ℕ) (m : Member) (ms : List Member) where
  pub take_down_to_above : (t : ℕ) → g < m.gain → take_down_to g t (m ∷ ms) ≡ taken_off m ∷ take_down_to g t ms
  unfolding take_down_to pick
  take_down_to_above zero h = rw (lt-ltb g m.gain h)
  take_down_to_above (suc t) h = rw (lt-ltb g m.gain h)

  pub take_down_to_under : (t : ℕ) → m.gain < g → take_down_to g t (m ∷ ms) ≡ m ∷ take_down_to g t ms
  unfolding take_down_to pick
  take_down_to_under zero h = rw (le-ltb g m.gain (omega arith))
  take_down_to_under (suc t) h =
      let n : m.gain ≡ g → ⊥ = omega arith in
      rw (le-ltb g m.gain (omega arith), ne_eqb m.gain g n)

  pub take_down_to_at : (t : ℕ) → m.gain ≡ g → take_down_to g (suc t) (m ∷ ms) ≡ taken_off m ∷ take_down_to g t ms
  unfolding take_down_to pick
  take_down_to_at t e = rw (le-ltb g m.gain (omega arith), eq-eqb m.gain g e)

  pub take_down_to_past : m.gain ≡ g → take_down_to g 0 (m ∷ ms) ≡ m ∷ take_down_to g 0 ms
  unfolding take_down_to pick
  take_down_to_past e = rw (le-ltb g m.gain (omega arith))

-- a number against a level
data Against (g x : ℕ) : Type 0 where
  above : g < x → Against g x
  at : x ≡ g → Against g x
  under : x < g → Against g x

against : (g x : ℕ) → Against g x
against g x = go (ltb g x) (eqb x g) refl refl
  where
    go : (b c : Bool) → ltb g x ≡ b → eqb x g ≡ c → Against g x
    go true c e f = above (ltb-true g x e)
    go false true e f = at (eqb-true x g f)
    go false false e f =
        let le : x ≤ g = ltb-false g x e in
        let n : x ≡ g → ⊥ = eqb-false x g f in
        under (omega arith)

-- nothing is taken where no gain is above the level
pub take_down_to_none : (g : ℕ) (ms : List Member) → largest_gain ms ≤ g → take_down_to g 0 ms ≡ ms
unfolding take_down_to largest_gain pick
take_down_to_none g [] h = refl
take_down_to_none g (m ∷ ms) h = rw (le-ltb g m.gain (omega arith), take_down_to_none g ms (omega arith))

-- ---- A turn

-- at the level: one more is taken
pub take_down_to_more : {g : ℕ} {ms ns : List Member} (t : ℕ) → 0 < g → largest_gain ms ≤ g → Earliest g ms ns
    → take_down_to g t ns ≡ take_down_to g (suc t) ms
unfolding largest_gain
take_down_to_more {g} t p b (here {m = m} {ms = ms} e) =
    take_down_to_under g (off_by g m) ms t p ∙ rw (sym e) refl ∙ sym (take_down_to_at g m ms t e)
take_down_to_more {g} t p b (there {m = m} {ms = ms} {ns = ns} n r) =
    let l : m.gain < g = omega arith in
    take_down_to_under g m ns t l ∙ rw (take_down_to_more t p (omega arith) r) refl
    ∙ sym (take_down_to_under g m ms (suc t) l)

-- a member that was taken is left as it is
take_down_to_off : (h t : ℕ) (m : Member) (ms : List Member) → m.gain ≡ 0 → (h ≡ 0 → t ≡ 0)
    → take_down_to h t (m ∷ ms) ≡ m ∷ take_down_to h t ms
take_down_to_off zero zero m ms e z = take_down_to_past 0 m ms e
take_down_to_off zero (suc t) m ms e z = absurd (omega (arith, z refl))
take_down_to_off (suc h) t m ms e z = take_down_to_under (suc h) m ms t (omega arith)

-- the same members before one more
take_down_to_cons : (h t : ℕ) (m : Member) (ms ns : List Member) → (h ≡ 0 → t ≡ 0)
    → ((k : ℕ) → (h ≡ 0 → k ≡ 0) → take_down_to h k ns ≡ take_down_to h k ms) → Against h m.gain
    → take_down_to h t (m ∷ ns) ≡ take_down_to h t (m ∷ ms)
take_down_to_cons h t m ms ns z same (above a) =
    take_down_to_above h m ns t a ∙ rw (same t z) refl ∙ sym (take_down_to_above h m ms t a)
take_down_to_cons h t m ms ns z same (under a) =
    take_down_to_under h m ns t a ∙ rw (same t z) refl ∙ sym (take_down_to_under h m ms t a)
take_down_to_cons h zero m ms ns z same (at a) =
    take_down_to_past h m ns a ∙ rw (same 0 z) refl ∙ sym (take_down_to_past h m ms a)
take_down_to_cons h (suc t) m ms ns z same (at a) =
    take_down_to_at h m ns t a ∙ rw (same t (λ q. absurd (omega (arith, z q)))) refl ∙ sym (take_down_to_at h m ms t a)

-- below the level: it is taken in any case
pub take_down_to-below : {g : ℕ} {ms ns : List Member} (h t : ℕ) → h < g → (h ≡ 0 → t ≡ 0) → Earliest g ms ns
    → take_down_to h t ns ≡ take_down_to h t ms
take_down_to-below {g} h t l z (here {m = m} {ms = ms} e) =
    take_down_to_off h t (off_by g m) ms refl z ∙ rw (sym e) refl ∙ sym (take_down_to_above h m ms t (omega arith))
take_down_to-below h t l z (there {m = m} {ms = ms} {ns = ns} n r) =
    take_down_to_cons h t m ms ns z (λ k y. take_down_to-below h k l y r) (against h m.gain)

-- ---- The level

-- a level at most g, and 0 times at 0
pub record LevelBound (g : ℕ) (lev : GainLevel) : Type 0 where
  pub most : lev.gain ≤ g
  pub none : lev.gain ≡ 0 → lev.times ≡ 0

level_here_bound : (n t g room sum : ℕ) (next : ℕ → GainLevel) → ((s : ℕ) → LevelBound g (next s))
    → LevelBound (suc g) (level_here n t (suc g) room sum next)
unfolding level_here pick
level_here_bound zero t g room sum next h = record { most = omega (arith, (h sum).most); none = (h sum).none }
level_here_bound (suc n) t g room sum next h =
    go (leb sum room) refl (level_here_bound n (suc t) g room (sum - suc g) next h)
  where
    go : (b : Bool) → leb sum room ≡ b → LevelBound (suc g) (level_here n (suc t) (suc g) room (sum - suc g) next)
        → LevelBound (suc g) (level_here (suc n) t (suc g) room sum next)
    go true e ih = rw e (record { most = omega arith; none = λ q. absurd (omega arith) })
    go false e ih = rw e ih

pub level_from_bound : (g : ℕ) (c : ℕ → ℕ) (room sum : ℕ) → LevelBound g (level_from g c room sum)
unfolding level_from
level_from_bound zero c room sum = record { most = omega arith; none = λ q. refl }
level_from_bound (suc g) c room sum =
    level_here_bound (c (suc g)) 0 g room sum (level_from g c room) (level_from_bound g c room)

-- the members that a level takes
abbrev pub take_by_level : GainLevel → List Member → List Member
take_by_level lev ms = take_down_to lev.gain lev.times ms

-- the members ms are those of ls after t turns at the level g + 1
record AfterTurns (g t : ℕ) (ms ls : List Member) : Type 0 where
  level : (k : ℕ) → take_down_to (suc g) k ms ≡ take_down_to (suc g) (k + t) ls
  below_level : (lev : GainLevel) → LevelBound g lev → take_by_level lev ms ≡ take_by_level lev ls

after_turn : (g t : ℕ) (ms ns ls : List Member) → largest_gain ms ≤ suc g → Earliest (suc g) ms ns
    → AfterTurns g t ms ls → AfterTurns g (suc t) ns ls
after_turn g t ms ns ls below r a =
    record {
      level = λ k.
          let e : suc k + t ≡ k + suc t = omega arith in
          take_down_to_more k (omega arith) below r ∙ a.level (suc k) ∙ rw e;
      below_level = λ lev u. take_down_to-below lev.gain lev.times (omega (arith, u.most)) u.none r
          ∙ a.below_level lev u;
    }

module _ (g : ℕ) (c : ℕ → ℕ) (room : ℕ)
    (next : (ms : List Member) → Counted g c ms → reduce room ms ≡ take_by_level (level_from g c room (rest_sum ms)) ms)
  where
    -- n members have the gain g + 1, and t had it
    level_reduce : (n t : ℕ) (ms ls : List Member) → EachMember Sound ms → largest_gain ms ≤ suc g
        → count_gain (suc g) ms ≡ n
        → ((h : ℕ) → 0 < h → h ≤ g → count_gain h ms ≡ c h) → AfterTurns g t ms ls
        → reduce room ms ≡ take_by_level (level_here n t (suc g) room (rest_sum ms) (level_from g c room)) ls
    unfolding level_here pick
    level_reduce zero t ms ls sound below this counts after =
        next ms (record { sound = sound; below = largest_below g ms below this; counts = counts })
        ∙ after.below_level (level_from g c room (rest_sum ms)) (level_from_bound g c room (rest_sum ms))
    level_reduce (suc n) t ms ls sound below this counts after =
        go (leb (rest_sum ms) room) refl (level_reduce n (suc t))
      where
        go : (b : Bool) → leb (rest_sum ms) room ≡ b
            → ((ns ks : List Member) → EachMember Sound ns → largest_gain ns ≤ suc g → count_gain (suc g) ns ≡ n
            → ((h : ℕ) → 0 < h → h ≤ g → count_gain h ns ≡ c h) → AfterTurns g (suc t) ns ks
            → reduce room ns ≡ take_by_level (level_here n (suc t) (suc g) room (rest_sum ns) (level_from g c room)) ks)
            → reduce room ms ≡ take_by_level (level_here (suc n) t (suc g) room (rest_sum ms) (level_from g c room)) ls
        go true e ih =
            let fits : rest_sum ms ≤ room = leb-true (rest_sum ms) room e in
            rw e (reduce_stop room ms (inl fits) ∙ sym (take_down_to_none (suc g) ms below) ∙ after.level 0
            ∙ rw (zero-add t))
        go false e ih =
            let over : room < rest_sum ms = leb-false (rest_sum ms) room e in
            let most : largest_gain ms ≡ suc g = omega (arith, count_le_largest (suc g) ms (omega arith)) in
            let ns : List Member = take_earliest (suc g) ms in
            let r : Earliest (suc g) ms ns = earliest (suc g) ms (omega arith) most in
            let turn : reduce room ms ≡ reduce room ns =
            rw most at (reduce_turn room ms (record { over = over; some = omega arith })) in
            let sum_is : rest_sum ns ≡ rest_sum ms - suc g = omega (arith, earliest_rest r sound) in
            let then =
            ih ns ls (earliest_sound r sound) (omega (arith, earliest_largest r))
            (omega (arith, earliest_count (omega arith) r))
            (λ h p q. earliest_count_other h p (omega arith) r ∙ counts h p q)
            (after_turn g t ms ns ls below r after) in
            rw e (turn ∙ then ∙ rw sum_is)

-- which members reduce takes
pub reduce_level : (g : ℕ) (c : ℕ → ℕ) (room : ℕ) (ms : List Member) → Counted g c ms
    → reduce room ms ≡ take_by_level (level_from g c room (rest_sum ms)) ms
unfolding level_from
reduce_level zero c room ms k =
    let none : largest_gain ms ≡ 0 = omega (arith, k.below) in
    reduce_stop room ms (inr none) ∙ sym (take_down_to_none 0 ms k.below)
reduce_level (suc g) c room ms k =
    level_reduce g c room (reduce_level g c room) (c (suc g)) 0 ms ms k.sound k.below
    (k.counts (suc g) (omega arith) (omega arith))
    (λ h p q. k.counts h p (omega arith))
    (record { level = λ n. rw (add-zero n); below_level = λ lev u. refl })
