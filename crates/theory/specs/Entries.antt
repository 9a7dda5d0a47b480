-- An entry over a list of checks (checked), with a plan or without, whatever it leaves: the cases of its list, as a
-- program goes through them, and what its answer tells. All that is asked of the list is that it never gives 0, and of
-- the answer of acceptance that it is 0 where all checks pass.
-- Proves promised, entry_none, entry_stop, entry_next, entry_after; entry_done, entry_refused, entry_stands,
-- entry_before; entry_passed, entry_accepted, entry_fails, entry_kept; and of the checks of a length unequal, equal.
-- Assumes nothing.
use Rattle.std.specs.Prelude.{ℕ, Bool, true, false, not, ◌&&◌, ◌≡◌, List, [], ◌∷◌, ◌++◌, eqb}
use Rattle.std.proofs.Math.Path.{refl, ap, ap₂}
use Rattle.std.proofs.Common.{sym, ◌∙◌, eq-eqb, ne_eqb}
use Rattle.model.specs.Basics.{pick, when}
use Rattle.model.specs.Refusals.{Check, passes, first_of, Outcome, outcome, checked}
use Rattle.std.specs.declared.option.Option.TheVariants.{Some, None}
use Rattle.model.specs.Refusals.{Answer}
use Rattle.theory.specs.Bools.{never_true}
use Rattle.theory.specs.Ranges.{when_true, when_false, at_place_at, at_place_nowhere, pick_true, pick_false}
use Rattle.theory.specs.Checks.{Never, passes_append, first_of_pass, first_of_stop, first_of_fails, first_of_all}
use Rattle.theory.specs.Checks.{accepted_pass}

-- an answer and what is left, with the promise that they carry
pub promised : {Told Left : Type 0} (Promise : Told → Left → Type 0) {w : Outcome Told Left}
    → Promise w.answer w.left → {r : Told} {x : Left} → outcome r x ≡ w → (outcome r x ≡ w) × Promise r x
promised Promise p is =
    (is, rw (ap (λ (o : Outcome _ _). o.answer) is, ap (λ (o : Outcome _ _). o.left) is) p)

-- a number that is to be n, as the checks of a length ask
pub unequal : (x n : ℕ) → (x ≡ n → ⊥) → when (not (eqb x n)) n ≡ Some n
unequal x n h = when_true (not (eqb x n)) n (ap not (ne_eqb x n h))

pub equal : (x n : ℕ) → x ≡ n → when (not (eqb x n)) n ≡ None
equal x n h = when_false (not (eqb x n)) n (ap not (eq-eqb x n h))

module _ {Left : Type 0} (a : Answer) (done lent : Left) where
  -- ---- Check by check

  pub entry_none : checked [] a done lent ≡ outcome a done
  unfolding checked first_of passes pick
  entry_none = refl

  pub entry_stop : (c : Check) (cs : List Check) (p : ℕ) → c.place ≡ Some p
      → checked (c ∷ cs) a done lent ≡ outcome (c.answer p) lent
  unfolding checked first_of passes pick
  entry_stop c cs p e =
      ap₂ (λ (r : Answer) (b : Bool). outcome r (pick b done lent))
      (at_place_at c.place p c.answer (first_of cs a) e) (at_place_at c.place p (λ q. false) (passes cs) e)

  pub entry_next : (c : Check) (cs : List Check) → c.place ≡ None
      → checked (c ∷ cs) a done lent ≡ checked cs a done lent
  unfolding checked first_of passes
  entry_next c cs e =
      ap₂ (λ (r : Answer) (b : Bool). outcome r (pick b done lent))
      (at_place_nowhere c.place c.answer (first_of cs a) e)
      (at_place_nowhere c.place (λ q. false) (passes cs) e)

  -- checks that pass leave it to those after them
  pub entry_after : (cs ds : List Check) → passes cs ≡ true
      → checked (cs ++ ds) a done lent ≡ checked ds a done lent
  unfolding checked
  entry_after cs ds e =
      ap₂ (λ (r : Answer) (b : Bool). outcome r (pick b done lent)) (first_of_pass cs ds a e)
      (passes_append cs ds ∙ ap (λ b. b && passes ds) e)

  module _ (cs : List Check) where
    -- ---- Where all pass, and where not

    pub entry_done : passes cs ≡ true → checked cs a done lent ≡ outcome a done
    unfolding checked
    entry_done e = ap₂ outcome (first_of_all cs a e) (pick_true (passes cs) done lent e)

    -- the answer is the list's, whatever comes after it
    pub entry_refused : (b : Answer) → passes cs ≡ false → checked cs a done lent ≡ outcome (first_of cs b) lent
    unfolding checked
    entry_refused b e = ap₂ outcome (first_of_fails cs a b e) (pick_false (passes cs) done lent e)

    -- ---- What the answer tells

    module _ (never : Never 0 cs) where
      pub entry_passed : (checked cs a done lent).answer.number ≡ 0 → passes cs ≡ true
      unfolding checked
      entry_passed z = accepted_pass cs a never z

      pub entry_accepted : (checked cs a done lent).answer.number ≡ 0 → checked cs a done lent ≡ outcome a done
      entry_accepted z = entry_done (entry_passed z)

    module _ (zero : passes cs ≡ true → a.number ≡ 0) where
      pub entry_fails : ((checked cs a done lent).answer.number ≡ 0 → ⊥) → passes cs ≡ false
      entry_fails h =
          never_true (passes cs)
          (λ e. h (ap (λ (o : Outcome Answer Left). o.answer.number) (entry_done e) ∙ zero e))

      -- on refusal what was lent is as it was
      pub entry_kept : ((checked cs a done lent).answer.number ≡ 0 → ⊥) → (checked cs a done lent).left ≡ lent
      entry_kept h = ap (λ (o : Outcome Answer Left). o.left) (entry_refused a (entry_fails h))

      -- as a program that has the list's answer leaves what it was lent
      pub entry_stands : {r : Answer} → r ≡ first_of cs a → (r.number ≡ 0 → ⊥)
          → outcome r lent ≡ checked cs a done lent
      unfolding checked
      entry_stands is h =
          ap₂ outcome is (sym (entry_kept (λ z. h (ap (λ (x : Answer). x.number) is ∙ z))))

  -- as one that has the answer of the first checks leaves it, whatever comes after them
  pub entry_before : (cs ds : List Check) (b : Answer) → (passes cs ≡ true → b.number ≡ 0) → {r : Answer}
      → r ≡ first_of cs b → (r.number ≡ 0 → ⊥) → outcome r lent ≡ checked (cs ++ ds) a done lent
  entry_before cs ds b zero is h =
      let fails : passes cs ≡ false =
      never_true (passes cs) (λ e. h (ap (λ (x : Answer). x.number) (is ∙ first_of_all cs b e) ∙ zero e)) in
      sym
      (entry_refused (cs ++ ds) a (passes_append cs ds ∙ ap (λ c. c && passes ds) fails)
      ∙ ap (λ (x : Answer). outcome x lent) (first_of_stop cs ds a b fails ∙ sym is))
