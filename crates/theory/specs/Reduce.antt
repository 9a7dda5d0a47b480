-- Laws of `reduce`, which takes gains off members, the largest first, until their sum has room.
-- Defines EachMember, sum_of, least_sum, Earliest and TurnOf (one turn), Turns, NoMoreTaken, Reduction (all turns),
-- Whole, Cuts, Reduced. Proves earliest_turn (a turn by sums), reduce_reduction and reduction_same (`reduce` takes
-- these turns, and no other list comes of them), reduce_keeps (what every turn keeps), reduce_length, reduce_least
-- (a reduced sum has room or is the least), reduce_whole (members that can be taken off whole have room, each kept
-- or cut). Assumes nothing.
use Rattle.std.specs.Prelude.{ℕ, zero, suc, ◌+◌, ◌-◌, ◌≤◌, ◌<◌, min, ◌≡◌, refl, Bool, true, false, List, [], ◌∷◌, ◌⊎◌, length, eqb, leb}
use Rattle.std.proofs.Common.{◌∙◌, ap, inl, inr, arith, leb-true, leb-false, eqb-true}
use Rattle.std.proofs.lemmas.Bool.{eqb-false}
use Rattle.model.specs.Basics.{pick}
use Rattle.model.specs.Steps.{Member, rest_sum, gain_sum, largest_gain, take_earliest, reduce_from, reduce}

-- ---- Members one by one

-- every member has a property
unfoldable pub EachMember : (Member → Type 0) → List Member → Type 0
EachMember P [] = Unit {0}
EachMember P (m ∷ ms) = P m × EachMember P ms

-- what a figure of each member comes to
unfoldable pub sum_of : (Member → ℕ) → List Member → ℕ
sum_of f [] = 0
sum_of f (m ∷ ms) = f m + sum_of f ms

-- what is left when every gain is taken off
abbrev least_of_member : Member → ℕ
least_of_member m = m.rest - m.gain

unfoldable pub least_sum : List Member → ℕ
least_sum ms = sum_of least_of_member ms

-- how many members have a gain
abbrev gainer_one : Member → ℕ
gainer_one m = min 1 m.gain

gainers : List Member → ℕ
gainers ms = sum_of gainer_one ms

-- ---- One turn

-- a member whose gain g was taken off
abbrev pub off_by : ℕ → Member → Member
off_by g m = record { rest = m.rest - g; gain = 0; taken = true }

-- the second list is the first with the gain g taken off the earliest member that has it
pub data Earliest (g : ℕ) : List Member → List Member → Type 0 where
  here : {m : Member} {ms : List Member} → m.gain ≡ g → Earliest g (m ∷ ms) (off_by g m ∷ ms)
  there : {m : Member} {ms ns : List Member} → (m.gain ≡ g → ⊥) → Earliest g ms ns → Earliest g (m ∷ ms) (m ∷ ns)

-- a gain above 0 that is the largest is some member's
pub earliest : (g : ℕ) (ms : List Member) → 0 < g → largest_gain ms ≡ g → Earliest g ms (take_earliest g ms)
unfolding largest_gain take_earliest pick
earliest g [] p e = absurd (omega arith)
earliest g (m ∷ ms) p e = go (eqb m.gain g) refl (earliest g ms p)
  where
    go : (b : Bool) → eqb m.gain g ≡ b → (largest_gain ms ≡ g → Earliest g ms (take_earliest g ms))
        → Earliest g (m ∷ ms) (take_earliest g (m ∷ ms))
    go true t ih = rw t (here (eqb-true _ _ t))
    go false t ih =
        let n : m.gain ≡ g → ⊥ = eqb-false _ _ t in
        rw t (there n (ih (omega arith)))

-- A turn by figures: the member whose gain was taken, and what the turn does to the sum of any figure.
pub record TurnOf (g : ℕ) (ms ns : List Member) : Type 0 where
  pub member : Member
  pub gains : member.gain ≡ g
  pub sums : (f : Member → ℕ) → sum_of f ns + f member ≡ sum_of f ms + f (off_by g member)

pub earliest_turn : {g : ℕ} {ms ns : List Member} → Earliest g ms ns → TurnOf g ms ns
unfolding sum_of
earliest_turn (here {m = m} e) = record { member = m; gains = e; sums = λ f. omega arith }
earliest_turn (there n r) =
    let t = earliest_turn r in
    record { member = t.member; gains = t.gains; sums = λ f. omega (arith, t.sums f) }

-- a property of each member, and of one whose gain was taken off, is still there after a turn
pub earliest_each : {g : ℕ} {ms ns : List Member} (P : Member → Type 0)
    → ((m : Member) → m.gain ≡ g → P m → P (off_by g m))
    → Earliest g ms ns → EachMember P ms → EachMember P ns
unfolding EachMember
earliest_each P off (here {m = m} e) h = (off m e h.0, h.1)
earliest_each P off (there n r) h = (h.0, earliest_each P off r h.1)

earliest_length : {g : ℕ} {ms ns : List Member} → Earliest g ms ns → length ns ≡ length ms
earliest_length (here e) = refl
earliest_length (there n r) = ap suc (earliest_length r)

-- a turn leaves one gainer less
earliest_gainers : {g : ℕ} {ms ns : List Member} → 0 < g → Earliest g ms ns → suc (gainers ns) ≡ gainers ms
unfolding gainers
earliest_gainers p r =
    let t = earliest_turn r in
    omega (arith, t.gains, t.sums gainer_one)

-- and the same least sum
earliest_least : {g : ℕ} {ms ns : List Member} → Earliest g ms ns → least_sum ns ≡ least_sum ms
unfolding least_sum
earliest_least r =
    let t = earliest_turn r in
    omega (arith, t.gains, t.sums least_of_member)

-- ---- Turns

-- there is no room, and something is left to take off
pub record Turns (room : ℕ) (ms : List Member) : Type 0 where
  pub over : room < rest_sum ms
  pub some : 0 < largest_gain ms

-- there is room, or nothing is left to take off
abbrev pub NoMoreTaken : ℕ → List Member → Type 0
NoMoreTaken room ms = (rest_sum ms ≤ room) ⊎ (largest_gain ms ≡ 0)

-- the second list comes of the first by turns, as many as there are
pub data Reduction (room : ℕ) : List Member → List Member → Type 0 where
  ended : {ms : List Member} → NoMoreTaken room ms → Reduction room ms ms
  turned : {ms ns : List Member} → Turns room ms → Reduction room (take_earliest (largest_gain ms) ms) ns
      → Reduction room ms ns

pub reduction_same : {room : ℕ} {ms ns ps : List Member} → Reduction room ms ns → Reduction room ms ps → ns ≡ ps
reduction_same (ended d) (ended e) = refl
reduction_same (ended (inl h)) (turned t r) = absurd (omega arith)
reduction_same (ended (inr h)) (turned t r) = absurd (omega arith)
reduction_same (turned t r) (ended (inl h)) = absurd (omega arith)
reduction_same (turned t r) (ended (inr h)) = absurd (omega arith)
reduction_same (turned t r) (turned u s) = reduction_same r s

pub largest_earliest : (ms : List Member) → 0 < largest_gain ms
    → Earliest (largest_gain ms) ms (take_earliest (largest_gain ms) ms)
largest_earliest ms p = earliest (largest_gain ms) ms p refl

-- with no gainer there is no gain
gainers_none : (ms : List Member) → gainers ms ≡ 0 → largest_gain ms ≡ 0
unfolding gainers sum_of largest_gain
gainers_none [] e = refl
gainers_none (m ∷ ms) e = omega (arith, gainers_none ms (omega arith))

-- there are no more gainers than members
gainers_le_length : (ms : List Member) → gainers ms ≤ length ms
unfolding gainers sum_of
gainers_le_length [] = omega arith
gainers_le_length (m ∷ ms) = omega (arith, gainers_le_length ms)

-- as many turns as there are gainers are all
reduce_from_reduction : (f room : ℕ) (ms : List Member) → gainers ms ≤ f → Reduction room ms (reduce_from f room ms)
unfolding reduce_from pick
reduce_from_reduction zero room ms h = ended (inr (gainers_none ms (omega arith)))
reduce_from_reduction (suc f) room ms h =
    go (leb (rest_sum ms) room) refl (eqb (largest_gain ms) 0) refl (reduce_from_reduction f room)
  where
    go : (b : Bool) → leb (rest_sum ms) room ≡ b → (c : Bool) → eqb (largest_gain ms) 0 ≡ c
        → ((ns : List Member) → gainers ns ≤ f → Reduction room ns (reduce_from f room ns))
        → Reduction room ms (reduce_from (suc f) room ms)
    go true e c q ih = rw e (ended (inl (leb-true _ _ e)))
    go false e true q ih = rw (e, q) (ended (inr (eqb-true _ _ q)))
    go false e false q ih =
        let n : largest_gain ms ≡ 0 → ⊥ = eqb-false _ _ q in
        let some : 0 < largest_gain ms = omega arith in
        rw (e, q) (turned (record { over = leb-false _ _ e; some = some })
        (ih _ (omega (arith, earliest_gainers some (largest_earliest ms some)))))

pub reduce_reduction : (room : ℕ) (ms : List Member) → Reduction room ms (reduce room ms)
unfolding reduce
reduce_reduction room ms = reduce_from_reduction (length ms) room ms (gainers_le_length ms)

-- what each turn keeps, all turns keep
reduction_keeps : {room : ℕ} {ms ns : List Member} (P : List Member → Type 0)
    → ((xs ys : List Member) → Turns room xs → Earliest (largest_gain xs) xs ys → P xs → P ys)
    → Reduction room ms ns → P ms → P ns
reduction_keeps P keep (ended d) p = p
reduction_keeps P keep (turned {ms = ms} t r) p =
    reduction_keeps P keep r (keep ms _ t (largest_earliest ms t.some) p)

pub reduce_keeps : (room : ℕ) (P : List Member → Type 0)
    → ((xs ys : List Member) → Turns room xs → Earliest (largest_gain xs) xs ys → P xs → P ys)
    → (ms : List Member) → P ms → P (reduce room ms)
reduce_keeps room P keep ms p = reduction_keeps P keep (reduce_reduction room ms) p

-- the length is kept
pub reduce_length : (room : ℕ) (ms : List Member) → length (reduce room ms) ≡ length ms
reduce_length room ms = reduce_keeps room (λ ns. length ns ≡ length ms) (λ xs ys t r e. earliest_length r ∙ e) ms refl

-- ---- Room

-- where no gain is left, the sum is the least
no_gain_least : (ms : List Member) → largest_gain ms ≡ 0 → rest_sum ms ≡ least_sum ms
unfolding least_sum sum_of rest_sum largest_gain
no_gain_least [] e = refl
no_gain_least (m ∷ ms) e = omega (arith, no_gain_least ms (omega arith))

reduction_least : {room : ℕ} {ms ns : List Member} → Reduction room ms ns
    → (rest_sum ns ≤ room) ⊎ (rest_sum ns ≡ least_sum ms)
reduction_least (ended (inl h)) = inl h
reduction_least (ended {ms = ms} (inr h)) = inr (no_gain_least ms h)
reduction_least (turned {ms = ms} t r) = rw (earliest_least (largest_earliest ms t.some)) at (reduction_least r)

-- a reduced sum has room, or is the least there is
pub reduce_least : (room : ℕ) (ms : List Member)
    → (rest_sum (reduce room ms) ≤ room) ⊎ (rest_sum (reduce room ms) ≡ least_sum ms)
reduce_least room ms = reduction_least (reduce_reduction room ms)

-- no member gains more than it weighs
abbrev pub GainFits : Member → Type 0
GainFits m = m.gain ≤ m.rest

-- then the least sum is the sum of the rests less the sum of the gains
pub least_gain : (ms : List Member) → EachMember GainFits ms → least_sum ms + gain_sum ms ≡ rest_sum ms
unfolding EachMember least_sum sum_of gain_sum rest_sum
least_gain [] h = refl
least_gain (m ∷ ms) h = omega (arith, h.0, least_gain ms h.1)

-- ---- Members that can be taken off whole

-- all of a member can be taken off
abbrev pub Whole : Member → Type 0
Whole m = m.gain ≡ m.rest

-- a member that was cut
abbrev pub cut_off : Member
cut_off = record { rest = 0; gain = 0; taken = true }

-- each member of the second list is the first's, or was cut
pub data Cuts : List Member → List Member → Type 0 where
  cuts_none : Cuts [] []
  cuts_one : {m x : Member} {ms xs : List Member} → (x ≡ m) ⊎ (x ≡ cut_off) → Cuts ms xs → Cuts (m ∷ ms) (x ∷ xs)

uncut : (ms : List Member) → Cuts ms ms
uncut [] = cuts_none
uncut (m ∷ ms) = cuts_one (inl refl) (uncut ms)

-- a whole member whose gain is taken off is cut
off_cut : (g : ℕ) (m x : Member) → Whole m → x.gain ≡ g → 0 < g → (x ≡ m) ⊎ (x ≡ cut_off) → off_by g x ≡ cut_off
off_cut g m x w e p (inl q) =
    let all : x.gain ≡ x.rest = rw q w in
    let zero_rest : x.rest - g ≡ 0 = omega arith in
    rw zero_rest
off_cut g m x w e p (inr q) =
    let none : x.gain ≡ 0 = rw q refl in
    absurd (omega arith)

earliest_cuts : {g : ℕ} {ms ns ps : List Member} → EachMember Whole ms → 0 < g → Earliest g ns ps → Cuts ms ns
    → Cuts ms ps
unfolding EachMember
earliest_cuts {g} h p (here {m = x} e) (cuts_one {m = m} c r) = cuts_one (inr (off_cut g m x h.0 e p c)) r
earliest_cuts h p (there n t) (cuts_one c r) = cuts_one c (earliest_cuts h.1 p t r)

whole_least : (ms : List Member) → EachMember Whole ms → least_sum ms ≡ 0
unfolding EachMember least_sum sum_of
whole_least [] h = refl
whole_least (m ∷ ms) h = omega (arith, h.0, whole_least ms h.1)

-- whole members: each is kept or cut, and they have room
pub record Reduced (room : ℕ) (ms : List Member) (ns : List Member) : Type 0 where
  pub cuts : Cuts ms ns
  pub fits : rest_sum ns ≤ room

pub reduce_whole : (room : ℕ) (ms : List Member) → EachMember Whole ms → Reduced room ms (reduce room ms)
reduce_whole room ms h =
    record {
      cuts = reduce_keeps room (Cuts ms) (λ xs ys t r c. earliest_cuts h t.some r c) ms (uncut ms);
      fits = fit (reduce_least room ms);
    }
  where
    fit : (rest_sum (reduce room ms) ≤ room) ⊎ (rest_sum (reduce room ms) ≡ least_sum ms) → rest_sum (reduce room ms) ≤ room
    fit (inl l) = l
    fit (inr e) = omega (arith, whole_least ms h)
