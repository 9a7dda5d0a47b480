-- The candidates of an entry, and the one that wins: what holds of every candidate holds of the winner (winner_all),
-- and the winner is no worse than any candidate (winner_below).
-- Defines AllOf, AnyOf, Below, stayed and ran (the candidates where the last child stays, and where it ends a run).
-- Assumes nothing.
use Rattle.std.specs.Prelude.{ℕ, ◌+◌, ◌≤◌, ◌≡◌, refl, Bool, true, false, ◌&&◌, ◌||◌, List, [], ◌∷◌, ◌++◌, reverse, ◌⊎◌, leb, ltb, eqb}
use Rattle.std.proofs.Common.{inl, inr, arith, leb-true, le-leb, ltb-true, ltb-false, eqb-true}
use Rattle.std.proofs.lemmas.Bool.{eqb-false}
use Rattle.model.specs.Basics.{pick}
use Rattle.model.specs.Plan.{stays, begins}
use Rattle.model.specs.Steps.{Member, Child, Entry, rest_sum, taken_count, better, least_of, winner, staying, run_choices}
use Rattle.model.specs.Steps.{running}
use Rattle.theory.specs.Ranges.{pick_both}

abbrev pub AllOf : (Entry → Type 0) → List Entry → Type 0
AllOf P [] = Unit {0}
AllOf P (c ∷ cs) = P c × AllOf P cs

abbrev pub AnyOf : (Entry → Type 0) → List Entry → Type 0
AnyOf P [] = ⊥
AnyOf P (c ∷ cs) = P c ⊎ AnyOf P cs

pub all_append : (P : Entry → Type 0) (cs ds : List Entry) → AllOf P cs → AllOf P ds → AllOf P (cs ++ ds)
all_append P [] ds p q = q
all_append P (c ∷ cs) ds p q = (p.0, all_append P cs ds p.1 q)

pub any_left : (P : Entry → Type 0) (cs ds : List Entry) → AnyOf P cs → AnyOf P (cs ++ ds)
any_left P [] ds p = absurd p
any_left P (c ∷ cs) ds (inl p) = inl p
any_left P (c ∷ cs) ds (inr p) = inr (any_left P cs ds p)

pub any_right : (P : Entry → Type 0) (cs ds : List Entry) → AnyOf P ds → AnyOf P (cs ++ ds)
any_right P [] ds p = p
any_right P (c ∷ cs) ds p = inr (any_right P cs ds p)

-- what holds of each holds of the least
pub least_all : (P : Entry → Type 0) (e : Entry) (cs : List Entry) → P e → AllOf P cs → P (least_of e cs)
unfolding least_of better
least_all P e [] p q = p
least_all P e (c ∷ cs) p q = least_all P (better e c) cs (pick_both P _ c e q.0 p) q.1

-- the winner is a candidate, if there is one
pub winner_all : (P Q : Entry → Type 0) (s : ℕ) (cs : List Entry) → AllOf P cs → AnyOf Q cs → P (winner s cs)
unfolding winner
winner_all P Q s [] p q = absurd q
winner_all P Q s (c ∷ cs) p q = least_all P c cs p.0 p.1

-- an entry is no worse than n pages and rest z: no more pages and, where it has as many, no heavier rest
pub record Below (e : Entry) (n z : ℕ) : Type 0 where
  pub count : e.count ≤ n
  pub rest : n ≤ e.count → e.rest ≤ z

below_trans : {e c : Entry} {n z : ℕ} → Below e c.count c.rest → Below c n z → Below e n z
below_trans p q =
    record { count = omega arith; rest = λ i. omega (arith, p.rest (omega arith), q.rest (omega arith)) }

-- the better of two entries is no worse than either
better_below : (e c : Entry) → Below (better e c) e.count e.rest × Below (better e c) c.count c.rest
unfolding better pick
better_below e c =
    ask (ltb c.count e.count) refl (eqb c.count e.count) refl (ltb c.rest e.rest) refl
  where
    self : (e : Entry) → Below e e.count e.rest
    self e = record { count = omega arith; rest = λ i. omega arith }

    ask : (a : Bool) → ltb c.count e.count ≡ a → (b : Bool) → eqb c.count e.count ≡ b
        → (d : Bool) → ltb c.rest e.rest ≡ d
        → Below (pick (a || (b && d)) c e) e.count e.rest × Below (pick (a || (b && d)) c e) c.count c.rest
    ask true p b q d r =
        let h = ltb-true c.count e.count p in
        (record { count = omega arith; rest = λ i. absurd (omega arith) }, self c)
    ask false p true q true r =
        let h = eqb-true c.count e.count q in
        (record { count = omega arith; rest = λ i. omega (arith, ltb-true c.rest e.rest r) }, self c)
    ask false p true q false r =
        let h = eqb-true c.count e.count q in
        (self e, record { count = omega arith; rest = λ i. ltb-false c.rest e.rest r })
    ask false p false q d r =
        let h = ltb-false c.count e.count p in
        (self e, record { count = h; rest = λ i. absurd (eqb-false c.count e.count q (omega arith)) })

least_below : (e : Entry) (cs : List Entry) (n z : ℕ) → Below e n z ⊎ AnyOf (λ (c : Entry). Below c n z) cs
    → Below (least_of e cs) n z
unfolding least_of
least_below e [] n z (inl h) = h
least_below e [] n z (inr h) = absurd h
least_below e (c ∷ cs) n z (inl h) = least_below (better e c) cs n z (inl (below_trans (better_below e c).0 h))
least_below e (c ∷ cs) n z (inr (inl h)) = least_below (better e c) cs n z (inl (below_trans (better_below e c).1 h))
least_below e (c ∷ cs) n z (inr (inr h)) = least_below (better e c) cs n z (inr h)

pub winner_below : (s : ℕ) (cs : List Entry) (n z : ℕ) → AnyOf (λ (c : Entry). Below c n z) cs → Below (winner s cs) n z
unfolding winner
winner_below s [] n z h = absurd h
winner_below s (c ∷ cs) n z h = least_below c cs n z h

-- the candidate where the last child stays, and the one where it ends a run
abbrev pub stayed : Entry → Entry
stayed e = record { count = e.count; rest = e.rest; choices = record { mark = stays; second = false } ∷ e.choices }

abbrev pub ran : List Member → Entry → Entry
ran ms e =
    record {
      count = e.count + 1 + taken_count ms;
      rest = e.rest;
      choices = reverse (run_choices begins ms) ++ e.choices;
    }

-- a candidate that there is where a is at most K
tested_all : (P : Entry → Type 0) (a K : ℕ) (c : Entry) → (a ≤ K → P c) → AllOf P (pick (leb a K) (c ∷ []) [])
unfolding pick
tested_all P a K c h = ask (leb a K) refl
  where
    ask : (b : Bool) → leb a K ≡ b → AllOf P (pick b (c ∷ []) [])
    ask true p = (h (leb-true a K p), tt)
    ask false p = tt

pub staying_all : (P : Entry → Type 0) (K s : ℕ) (k : Child) (e : Entry) → (s + k.rest ≤ K → P (stayed e))
    → AllOf P (staying K s k e)
unfolding staying
staying_all P K s k e h = tested_all P (s + k.rest) K (stayed e) h

pub staying_any : (P : Entry → Type 0) (K s : ℕ) (k : Child) (e : Entry) → s + k.rest ≤ K → P (stayed e)
    → AnyOf P (staying K s k e)
unfolding staying pick
staying_any P K s k e l h = rw (le-leb (s + k.rest) K l) (inl h)

pub running_all : (P : Entry → Type 0) (K : ℕ) (ms : List Member) (e : Entry) → (rest_sum ms ≤ K → P (ran ms e))
    → AllOf P (running K ms e)
unfolding running
running_all P K ms e h = tested_all P (rest_sum ms) K (ran ms e) h

pub running_any : (P : Entry → Type 0) (K : ℕ) (ms : List Member) (e : Entry) → rest_sum ms ≤ K → P (ran ms e)
    → AnyOf P (running K ms e)
unfolding running pick
running_any P K ms e l h = rw (le-leb (rest_sum ms) K l) (inl h)
