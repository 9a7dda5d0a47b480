-- What `reduce` makes of the members of a run: it takes the largest gains first, so whatever choice of gains brings
-- the sum of the rests down to the room, `reduce` does too, and takes no more of them.
-- Defines Offers (what a child offers), Picked (an offer of each member of a run), Gainful, Spared and RunReduced
-- (what a run's members are reduced to). Proves run_of_least and run_of_reduced, and that the stretch does not stop at a
-- run that is within K by any offers (picked_goes), or as it is reduced (run_of_goes). Assumes nothing.
use Rattle.std.specs.Prelude.{ℕ, zero, suc, ◌+◌, ◌-◌, ◌≤◌, ◌≡◌, refl, Bool, true, false, List, [], ◌∷◌, map}
use Rattle.std.proofs.Common.{inl, inr, arith, le-ltb}
use Rattle.model.specs.Basics.{pick}
use Rattle.model.specs.Steps.{Member, rest_sum, gain_sum, taken_count, largest_gain, Child, as_member, run_of, lightest}
use Rattle.model.specs.Steps.{stops_at}
use Rattle.theory.specs.Reduce.{EachMember, Earliest, here, there, largest_earliest, Reduction, ended, turned}
use Rattle.theory.specs.Reduce.{reduce_reduction, reduce_keeps}
use Rattle.theory.specs.ReduceCount.{Sound, as_member-sound, earliest_sound, earliest_rest, earliest_taken}

-- ---- A choice of m members, whose gains sum to t

data GainsChosen : List Member → ℕ → ℕ → Type 0 where
  none_chosen : {m t : ℕ} → m ≡ 0 → t ≡ 0 → GainsChosen [] m t
  leave : {x : Member} {ms : List Member} {m t : ℕ} → GainsChosen ms m t → GainsChosen (x ∷ ms) m t
  choose : {x : Member} {ms : List Member} {m t m' t' : ℕ}
      → m ≡ suc m' → t ≡ t' + x.gain → GainsChosen ms m' t' → GainsChosen (x ∷ ms) m t

choose_none : (ms : List Member) → GainsChosen ms 0 0
choose_none [] = none_chosen refl refl
choose_none (x ∷ ms) = leave (choose_none ms)

chosen_none : {ms : List Member} {m t : ℕ} → GainsChosen ms m t → m ≡ 0 → t ≡ 0
chosen_none (none_chosen e f) z = f
chosen_none (leave c) z = chosen_none c z
chosen_none (choose e f c) z = omega arith

chosen_no_gain : {ms : List Member} {m t : ℕ} → GainsChosen ms m t → largest_gain ms ≡ 0 → t ≡ 0
unfolding largest_gain
chosen_no_gain (none_chosen e f) w = f
chosen_no_gain (leave c) w = chosen_no_gain c (omega arith)
chosen_no_gain (choose e f c) w = omega (arith, chosen_no_gain c (omega arith))

-- a choice of one member fewer, which loses at most g
record Fewer (ms : List Member) (g m t : ℕ) : Type 0 where
  count : ℕ
  one : m ≡ suc count
  sum : ℕ
  fewer : GainsChosen ms count sum
  loses : t ≤ sum + g

fewer_leave : {x : Member} {ms : List Member} {g m t : ℕ} → Fewer ms g m t → Fewer (x ∷ ms) g m t
fewer_leave r = record { count = r.count; one = r.one; sum = r.sum; fewer = leave r.fewer; loses = r.loses }

-- leaving one chosen member
drop_one : {ms : List Member} {g m t : ℕ} → GainsChosen ms m t → 1 ≤ m → largest_gain ms ≤ g → Fewer ms g m t
unfolding largest_gain
drop_one (none_chosen e f) q w = absurd (omega arith)
drop_one (leave c) q w = fewer_leave (drop_one c q (omega arith))
drop_one (choose e f c) q w = record { count = _; one = e; sum = _; fewer = leave c; loses = omega arith }

-- leaving the member whose gain is taken, or else another
exchange : {g m t : ℕ} {ms ns : List Member} → Earliest g ms ns → GainsChosen ms m t → 1 ≤ m → largest_gain ms ≤ g
    → Fewer ns g m t
unfolding largest_gain
exchange (here e) (leave c) q w = fewer_leave (drop_one c q (omega arith))
exchange (here e) (choose h f c) q w = record { count = _; one = h; sum = _; fewer = leave c; loses = omega arith }
exchange (there d k) (leave c) q w = fewer_leave (exchange k c q (omega arith))
exchange (there {ns = ns} d k) (choose {m' = zero} h f c) q w =
    record { count = 0; one = h; sum = 0; fewer = choose_none (_ ∷ ns); loses = omega (arith, chosen_none c refl) }
exchange (there d k) (choose {x = x} {m' = suc n} h f c) q w =
    let r = exchange k c (omega arith) (omega arith) in
    record {
      count = suc r.count;
      one = omega (arith, r.one);
      sum = r.sum + x.gain;
      fewer = choose refl refl r.fewer;
      loses = omega (arith, r.loses);
    }

-- ---- All turns

-- the members are within the room, no more of them with their second plan than any choice that is within it
pub record Spared (room m : ℕ) (ms : List Member) : Type 0 where
  pub within : rest_sum ms ≤ room
  pub fewest : taken_count ms ≤ m

reduction_spared : {room : ℕ} {ms ns : List Member} {t : ℕ} → Reduction room ms ns → (m : ℕ) → EachMember Sound ms
    → GainsChosen ms m t → rest_sum ms ≤ room + t → Spared room (taken_count ms + m) ns
reduction_spared (ended (inl e)) m s c h = record { within = e; fewest = omega arith }
reduction_spared (ended (inr e)) m s c h = record { within = omega (arith, chosen_no_gain c e); fewest = omega arith }
reduction_spared (turned x r) zero s c h = absurd (omega (arith, chosen_none c refl, x.over))
reduction_spared (turned {ms = ms} x r) (suc m) s c h =
    let k = largest_earliest ms x.some in
    let less = exchange k c (omega arith) (omega arith) in
    let rest = reduction_spared r less.count (earliest_sound k s) less.fewer
    (omega (arith, less.loses, earliest_rest k s)) in
    record { within = rest.within; fewest = omega (arith, rest.fewest, less.one, earliest_taken x.some k s) }

-- ---- The members of a run

-- what a child offers: its best plan and, where it has a gain, its second, which has a page more; pages more, and
-- rest
pub data Offers (k : Child) : Bool → ℕ → ℕ → Type 0 where
  best : {e r : ℕ} → e ≡ 0 → r ≡ k.rest → Offers k false e r
  second : {e r : ℕ} → e ≡ 1 → 1 ≤ k.gain → r + k.gain ≡ k.rest → Offers k true e r

-- an offer of each member of a run: their pages more, and their rests, in all
pub data Picked : List Child → ℕ → ℕ → Type 0 where
  picked_none : {m z : ℕ} → m ≡ 0 → z ≡ 0 → Picked [] m z
  picked_one : {k : Child} {run : List Child} {b : Bool} {e r m z m' z' : ℕ}
      → Offers k b e r → m ≡ e + m' → z ≡ r + z' → Picked run m' z' → Picked (k ∷ run) m z

-- whatever the offers are, they come to no less than the run's lightest total
picked_lightest : {run : List Child} {m z : ℕ} → Picked run m z → lightest run ≤ z
unfolding lightest rest_sum gain_sum as_member
picked_lightest (picked_none e f) = omega arith
picked_lightest (picked_one (best e₁ f₁) e f p) = omega (arith, picked_lightest p)
picked_lightest (picked_one (second e₁ l f₁) e f p) = omega (arith, picked_lightest p)

pub picked_goes : (K : ℕ) {m z : ℕ} {run : List Child} → Picked run m z → z ≤ K → stops_at K run ≡ false
unfolding stops_at
picked_goes K {run = run} p h = le-ltb K (lightest run) (omega (arith, picked_lightest p))

-- every gain is part of its rest
abbrev pub Gainful : List Child → Type 0
Gainful [] = Unit {0}
Gainful (k ∷ ks) = (k.gain ≤ k.rest) × Gainful ks

-- the choice of gains that the offers make
record ByGains (run : List Child) (m z : ℕ) : Type 0 where
  sum : ℕ
  chosen : GainsChosen (map as_member run) m sum
  total : rest_sum (map as_member run) ≡ z + sum

picked_gains : {run : List Child} {m z : ℕ} → Picked run m z → ByGains run m z
unfolding rest_sum as_member
picked_gains (picked_none e f) = record { sum = 0; chosen = none_chosen e refl; total = omega arith }
picked_gains (picked_one {m = m} {m' = m'} (best e₁ f₁) e f p) =
    let t = picked_gains p in
    let same : m ≡ m' = omega arith in
    record { sum = t.sum; chosen = rw same (leave t.chosen); total = omega (arith, t.total) }
picked_gains (picked_one {k = k} {m = m} {m' = m'} (second e₁ l f₁) e f p) =
    let t = picked_gains p in
    let more : m ≡ suc m' = omega arith in
    record { sum = t.sum + k.gain; chosen = choose more refl t.chosen; total = omega (arith, t.total) }

run_sound : (run : List Child) → Gainful run → EachMember Sound (map as_member run)
unfolding EachMember
run_sound [] g = tt
run_sound (k ∷ run) g = (as_member-sound k g.0, run_sound run g.1)

run_untaken : (run : List Child) → taken_count (map as_member run) ≡ 0
unfolding taken_count as_member pick
run_untaken [] = refl
run_untaken (k ∷ run) = omega (arith, run_untaken run)

pub run_of_least : {room m z : ℕ} {run : List Child} → Gainful run → Picked run m z → z ≤ room
    → Spared room m (run_of room run)
unfolding run_of
run_of_least {room} {m} {run = run} g p l =
    let t = picked_gains p in
    let r = reduction_spared (reduce_reduction room (map as_member run)) m (run_sound run g) t.chosen
    (omega (arith, t.total)) in
    record { within = r.within; fewest = omega (arith, run_untaken run, r.fewest) }

-- what a member may be reduced to: as it was, or its child's second plan
pub data MemberReduced (k : Child) (m : Member) : Type 0 where
  as_before : m.rest ≡ k.rest → m.gain ≡ k.gain → m.taken ≡ false → MemberReduced k m
  by_second : m.rest + k.gain ≡ k.rest → 1 ≤ k.gain → m.gain ≡ 0 → m.taken ≡ true → MemberReduced k m

-- it follows what its child offers
pub reduced_offers : {k : Child} {m : Member} → MemberReduced k m → Offers k m.taken (pick m.taken 1 0) m.rest
unfolding pick
reduced_offers (as_before a b c) = rw c (best refl a)
reduced_offers (by_second a b c d) = rw d (second refl b a)

pub data RunReduced : List Child → List Member → Type 0 where
  reduced_none : RunReduced [] []
  reduced_one : {k : Child} {m : Member} {run : List Child} {ms : List Member}
      → MemberReduced k m → RunReduced run ms → RunReduced (k ∷ run) (m ∷ ms)

reduced_run : (run : List Child) → RunReduced run (map as_member run)
unfolding as_member
reduced_run [] = reduced_none
reduced_run (k ∷ run) = reduced_one (as_before refl refl refl) (reduced_run run)

reduced_turn : {g : ℕ} {run : List Child} {ms ns : List Member} → Earliest g ms ns → Gainful run → 1 ≤ g
    → RunReduced run ms → RunReduced run ns
reduced_turn {g = v} (here {m = m} e) g p (reduced_one {k = k} (as_before a b c) r) =
    let q : m.rest - v + k.gain ≡ k.rest = omega arith in
    let l : 1 ≤ k.gain = omega arith in
    reduced_one (by_second q l refl refl) r
reduced_turn (here e) g p (reduced_one (by_second a b c d) r) = absurd (omega arith)
reduced_turn (there n t) g p (reduced_one o r) = reduced_one o (reduced_turn t g.1 p r)

pub run_of_reduced : (room : ℕ) (run : List Child) → Gainful run → RunReduced run (run_of room run)
unfolding run_of
run_of_reduced room run g =
    reduce_keeps room (RunReduced run) (λ xs ys x r c. reduced_turn r g x.some c) _ (reduced_run run)

-- it is an offer of each member
reduced_picked : {run : List Child} {ms : List Member} → RunReduced run ms → Picked run (taken_count ms) (rest_sum ms)
unfolding rest_sum taken_count
reduced_picked reduced_none = picked_none refl refl
reduced_picked (reduced_one o r) = picked_one (reduced_offers o) refl refl (reduced_picked r)

pub run_of_goes : (K : ℕ) (run : List Child) → Gainful run → rest_sum (run_of K run) ≤ K → stops_at K run ≡ false
run_of_goes K run g h = picked_goes K (reduced_picked (run_of_reduced K run g)) h
