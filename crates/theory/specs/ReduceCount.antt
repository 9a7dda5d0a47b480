-- What counting gains needs of `reduce`: its figures, the sum and how many members were taken, follow from the sum,
-- the room and how many members have each gain.
-- Defines Sound, has_gain, count_gain, Totals, totals_of, take_up_to, by_count, Counted. Proves reduce_stop, reduce_turn
-- (one turn), earliest_rest, earliest_taken, earliest_count, earliest_count_other (what a turn does to the figures
-- and to each count) and reduce_by_count (the figures of `reduce`, from the largest gain down). Assumes nothing.
use Prim.Native.Nat.{ℕ, zero, suc, ◌+◌, ◌-◌, ◌≤◌, ◌<◌}
use Rattle.std.specs.Prelude.{◌≡◌, Bool, List, [], ◌∷◌, eqb}
use Rattle.std.proofs.Math.Path.{refl, ap}
use Rattle.std.proofs.Common.{sym, ◌∙◌, inl, inr}
use Rattle.std.proofs.Math.Bool.{true, false}
use native.Mathlib.Omega.{arith}
use Rattle.std.proofs.Math.Dec.{leb}
use borrow.Author.Tests.{leb-true, leb-false, eqb-true, le-leb, eq-eqb, ne_eqb}
use Rattle.model.specs.Basics.{pick}
use Rattle.model.specs.Steps.{Member, rest_sum, taken_count, largest_gain, take_earliest, reduce, Child, as_member}
use Rattle.theory.specs.Reduce.{EachMember, sum_of, Earliest, here, there, earliest, earliest_turn, earliest_each}
use Rattle.theory.specs.Reduce.{Turns, NoMoreTaken, ended, turned, reduction_same, reduce_reduction}

-- ---- One turn of reduce

pub reduce_stop : (room : ℕ) (ms : List Member) → NoMoreTaken room ms → reduce room ms ≡ ms
reduce_stop room ms d = reduction_same (reduce_reduction room ms) (ended d)

pub reduce_turn : (room : ℕ) (ms : List Member) → Turns room ms
    → reduce room ms ≡ reduce room (take_earliest (largest_gain ms) ms)
reduce_turn room ms t = reduction_same (reduce_reduction room ms) (turned t (reduce_reduction room _))

-- ---- What a turn does to the figures

-- a member gains no more than it weighs, and one with a gain was not taken
pub record Sound (m : Member) : Type 0 where
  pub fits : m.gain ≤ m.rest
  pub fresh : 0 < m.gain → m.taken ≡ false

pub as_member-sound : (k : Child) → k.gain ≤ k.rest → Sound (as_member k)
unfolding as_member
as_member-sound k h = record { fits = h; fresh = λ p. refl }

pub earliest_sound : {g : ℕ} {ms ns : List Member} → Earliest g ms ns → EachMember Sound ms → EachMember Sound ns
earliest_sound r h =
    earliest_each Sound (λ m e s. record { fits = omega arith; fresh = λ p. absurd (omega arith) }) r h

pub earliest_rest : {g : ℕ} {ms ns : List Member} → Earliest g ms ns → EachMember Sound ms → rest_sum ns + g ≡ rest_sum ms
unfolding EachMember rest_sum
earliest_rest (here e) h = omega (arith, h.0.fits)
earliest_rest (there n r) h = omega (arith, earliest_rest r h.1)

pub earliest_taken : {g : ℕ} {ms ns : List Member} → 0 < g → Earliest g ms ns → EachMember Sound ms
    → taken_count ns ≡ suc (taken_count ms)
unfolding EachMember taken_count pick
earliest_taken p (here {m = m} e) h =
    let f : m.taken ≡ false = h.0.fresh (omega arith) in
    rw f (omega arith)
earliest_taken p (there n r) h = omega (arith, earliest_taken p r h.1)

-- whether a member has the gain g
abbrev pub has_gain : ℕ → Member → ℕ
has_gain g m = pick (eqb m.gain g) 1 0

-- how many members have the gain g
unfoldable pub count_gain : ℕ → List Member → ℕ
count_gain g ms = sum_of (has_gain g) ms

pub count_gain_cons : (g : ℕ) (m : Member) (ms : List Member) → count_gain g (m ∷ ms) ≡ has_gain g m + count_gain g ms
unfolding count_gain sum_of
count_gain_cons g m ms = refl

pub earliest_count : {g : ℕ} {ms ns : List Member} → 0 < g → Earliest g ms ns → suc (count_gain g ns) ≡ count_gain g ms
unfolding count_gain pick
earliest_count {g} p r =
    let t = earliest_turn r in
    let n : 0 ≡ g → ⊥ = omega arith in
    omega (arith, rw (eq-eqb t.member.gain g t.gains, ne_eqb 0 g n) at (t.sums (has_gain g)))

pub earliest_count_other : {g : ℕ} {ms ns : List Member} (h : ℕ) → 0 < h → (h ≡ g → ⊥) → Earliest g ms ns
    → count_gain h ns ≡ count_gain h ms
unfolding count_gain pick
earliest_count_other h p d r =
    let t = earliest_turn r in
    let n : 0 ≡ h → ⊥ = omega arith in
    let o : t.member.gain ≡ h → ⊥ = λ q. d (sym q ∙ t.gains) in
    omega (arith, rw (ne_eqb t.member.gain h o, ne_eqb 0 h n) at (t.sums (has_gain h)))

-- ---- The largest gain, by counts

pub count_le_largest : (h : ℕ) (ms : List Member) → 0 < count_gain h ms → h ≤ largest_gain ms
unfolding count_gain sum_of largest_gain pick
count_le_largest h [] p = absurd (omega arith)
count_le_largest h (m ∷ ms) p = go (eqb m.gain h) refl (count_le_largest h ms)
  where
    go : (b : Bool) → eqb m.gain h ≡ b → (0 < count_gain h ms → h ≤ largest_gain ms) → h ≤ largest_gain (m ∷ ms)
    go true t ih = omega (arith, eqb-true m.gain h t)
    go false t ih =
        let p' : 0 < 0 + count_gain h ms = rw t at p in
        omega (arith, ih (omega arith))

pub largest_below : (g : ℕ) (ms : List Member) → largest_gain ms ≤ suc g → count_gain (suc g) ms ≡ 0 → largest_gain ms ≤ g
largest_below g ms h z =
    let less : largest_gain ms ≡ suc g → ⊥ =
    λ q. omega (arith, earliest_count (omega arith) (earliest (suc g) ms (omega arith) q)) in
    omega arith

pub earliest_largest : {g : ℕ} {ms ns : List Member} → Earliest g ms ns → largest_gain ns ≤ largest_gain ms
unfolding largest_gain
earliest_largest (here e) = omega arith
earliest_largest (there n r) = omega (arith, earliest_largest r)

-- ---- The figures, from the largest gain down

pub record Totals : Type 0 where
  pub sum : ℕ
  pub count : ℕ

unfoldable pub totals_of : List Member → Totals
totals_of ms = record { sum = rest_sum ms; count = taken_count ms }

-- the gain g is taken at most n times, while the sum has no room
unfoldable pub take_up_to : ℕ → ℕ → ℕ → Totals → Totals
take_up_to zero g room s = s
take_up_to (suc n) g room s =
    pick (leb s.sum room) s (take_up_to n g room (record { sum = s.sum - g; count = suc s.count }))

-- each gain from g down to 1, of which there are c g
unfoldable pub by_count : ℕ → (ℕ → ℕ) → ℕ → Totals → Totals
by_count zero c room s = s
by_count (suc g) c room s = by_count g c room (take_up_to (c (suc g)) (suc g) room s)

pub take_up_to-room : (n g room : ℕ) (s : Totals) → s.sum ≤ room → take_up_to n g room s ≡ s
unfolding take_up_to pick
take_up_to-room zero g room s h = refl
take_up_to-room (suc n) g room s h = rw (le-leb s.sum room h)

pub by_count-room : (g : ℕ) (c : ℕ → ℕ) (room : ℕ) (s : Totals) → s.sum ≤ room → by_count g c room s ≡ s
unfolding by_count
by_count-room zero c room s h = refl
by_count-room (suc g) c room s h = rw (take_up_to-room (c (suc g)) (suc g) room s h) (by_count-room g c room s h)

-- what is known of the members where gains above g are gone
pub record Counted (g : ℕ) (c : ℕ → ℕ) (ms : List Member) : Type 0 where
  pub sound : EachMember Sound ms
  pub below : largest_gain ms ≤ g
  pub counts : (h : ℕ) → 0 < h → h ≤ g → count_gain h ms ≡ c h

-- and where n members have the gain g + 1, the largest
record CountedAt (g : ℕ) (c : ℕ → ℕ) (n : ℕ) (ms : List Member) : Type 0 where
  sound : EachMember Sound ms
  below : largest_gain ms ≤ suc g
  these : count_gain (suc g) ms ≡ n
  counts : (h : ℕ) → 0 < h → h ≤ g → count_gain h ms ≡ c h

counted_turn : {g n : ℕ} {c : ℕ → ℕ} {ms ns : List Member} → Earliest (suc g) ms ns → CountedAt g c (suc n) ms
    → CountedAt g c n ns
counted_turn r k =
    record {
      sound = earliest_sound r k.sound;
      below = omega (arith, k.below, earliest_largest r);
      these = omega (arith, k.these, earliest_count (omega arith) r);
      counts = λ h p q. earliest_count_other h p (omega arith) r ∙ k.counts h p q;
    }

figures_turn : {g : ℕ} {ms ns : List Member} → Earliest (suc g) ms ns → EachMember Sound ms
    → totals_of ns ≡ record { sum = rest_sum ms - suc g; count = suc (taken_count ms) }
unfolding totals_of
figures_turn {g} {ms} {ns} r h =
    let sum_is : rest_sum ns ≡ rest_sum ms - suc g = omega (arith, earliest_rest r h) in
    rw (sum_is, earliest_taken (omega arith) r h)

module _ (g : ℕ) (c : ℕ → ℕ) (room : ℕ)
    (lower : (ms : List Member) → Counted g c ms → totals_of (reduce room ms) ≡ by_count g c room (totals_of ms))
  where
    level_by_count : (n : ℕ) (ms : List Member) → CountedAt g c n ms
        → totals_of (reduce room ms) ≡ by_count g c room (take_up_to n (suc g) room (totals_of ms))
    unfolding take_up_to totals_of pick
    level_by_count zero ms k =
        lower ms (record { sound = k.sound; below = largest_below g ms k.below k.these; counts = k.counts })
    level_by_count (suc n) ms k = go (leb (rest_sum ms) room) refl (level_by_count n (take_earliest (suc g) ms))
      where
        go : (b : Bool) → leb (rest_sum ms) room ≡ b
            → (CountedAt g c n (take_earliest (suc g) ms) → totals_of (reduce room (take_earliest (suc g) ms))
            ≡ by_count g c room (take_up_to n (suc g) room (totals_of (take_earliest (suc g) ms))))
            → totals_of (reduce room ms) ≡ by_count g c room (take_up_to (suc n) (suc g) room (totals_of ms))
        go true e ih =
            let fits : rest_sum ms ≤ room = leb-true (rest_sum ms) room e in
            rw (reduce_stop room ms (inl fits), e) (sym (by_count-room g c room (totals_of ms) fits))
        go false e ih =
            let over : room < rest_sum ms = leb-false (rest_sum ms) room e in
            let most : largest_gain ms ≡ suc g =
            omega (arith, k.below, k.these, count_le_largest (suc g) ms (omega (arith, k.these))) in
            let r = earliest (suc g) ms (omega arith) most in
            let turn = rw most at (reduce_turn room ms (record { over = over; some = omega arith })) in
            rw e (ap totals_of turn ∙ ih (counted_turn r k)
            ∙ ap (λ s. by_count g c room (take_up_to n (suc g) room s)) (figures_turn r k.sound))

-- The figures of reduced members: each gain from the largest down, taken while the sum has no room.
pub reduce_by_count : (g : ℕ) (c : ℕ → ℕ) (room : ℕ) (ms : List Member) → Counted g c ms
    → totals_of (reduce room ms) ≡ by_count g c room (totals_of ms)
unfolding by_count
reduce_by_count zero c room ms k = rw (reduce_stop room ms (inr (omega (arith, k.below))))
reduce_by_count (suc g) c room ms k =
    level_by_count g c room (reduce_by_count g c room) (c (suc g)) ms
    (record {
      sound = k.sound;
      below = k.below;
      these = k.counts (suc g) (omega arith) (omega arith);
      counts = λ h p q. k.counts h p (omega arith);
    })
