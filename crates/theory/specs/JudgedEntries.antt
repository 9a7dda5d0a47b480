-- An entry that judges a tree and a plan under rules, and then checks a list of its own: its ends, as a program comes
-- to them, and what its answer tells.
-- Proves judge_passes, judge_fails, judge_given, given_zero; after_never, after_parts, after_zero; judge_stands,
-- after_stands, after_done, after_last; and of the check of a length short_output, long_output. Assumes nothing.
use Rattle.std.specs.Prelude.{ℕ, false, ◌≡◌, List, [], ◌∷◌, ◌++◌, length}
use Rattle.std.proofs.Math.Bool.{true}
use Rattle.std.proofs.Math.Path.{sym}
use Rattle.std.proofs.Common.{◌∙◌, ap}
use Rattle.model.specs.Plan.{verdict_of}
use Rattle.model.specs.Refusals.{Rules, Check, bad_output, judge_checks, passes, feasible_by, answer_of, refused, first_of}
use Rattle.model.specs.Refusals.{outcome, checked, judge_by}
use Rattle.model.specs.Refusals.{Answer}
use Rattle.theory.specs.Ranges.{at_place_at, at_place_nowhere}
use Rattle.theory.specs.Bools.{never_true}
use Rattle.theory.specs.Checks.{Never, passes_both, first_of_pass, first_of_all}
use Rattle.theory.specs.Checks.{never_append, accepted_pass, judge_never}
use Rattle.theory.specs.Entries.{unequal, equal, entry_after, entry_done, entry_stands, entry_before}
use Rattle.theory.specs.PlanFeasible.{with_judged, judged_zero}

-- ---- The judge

module _ (rules : Rules) (t m : List ℕ) where
  abbrev judging : List Check
  judging = judge_checks rules t m

  abbrev given : Answer
  given = answer_of (verdict_of t m)

  pub judge_passes : (judge_by rules t m).number ≡ 0 → feasible_by rules t m ≡ true
  judge_passes z = accepted_pass judging given (judge_never rules t m) z

  pub judge_given : feasible_by rules t m ≡ true → judge_by rules t m ≡ answer_of (verdict_of t m)
  judge_given f = first_of_all judging given f

  pub given_zero : feasible_by rules t m ≡ true → (answer_of (verdict_of t m)).number ≡ 0
  given_zero f = judged_zero (with_judged rules t m f)

  pub judge_fails : ((judge_by rules t m).number ≡ 0 → ⊥) → feasible_by rules t m ≡ false
  judge_fails h =
      never_true (feasible_by rules t m)
      (λ f. h (ap (λ (x : Answer). x.number) (judge_given f) ∙ given_zero f))

  -- ---- What is checked after it

  module _ (after : List Check) where
    pub after_never : Never 0 after → Never 0 (judge_checks rules t m ++ after)
    after_never fine = never_append 0 judging after (judge_never rules t m) fine

    pub after_parts : passes (judge_checks rules t m ++ after) ≡ true
        → (feasible_by rules t m ≡ true) × (passes after ≡ true)
    after_parts e = passes_both judging after e

    pub after_zero : passes (judge_checks rules t m ++ after) ≡ true → (answer_of (verdict_of t m)).number ≡ 0
    after_zero e = given_zero (after_parts e).0

    module _ {Left : Type 0} (done lent : Left) where
      -- a refusal of the judge
      pub judge_stands : {j : Answer} → j ≡ judge_by rules t m → (j.number ≡ 0 → ⊥)
          → outcome j lent ≡ checked (judge_checks rules t m ++ after) (answer_of (verdict_of t m)) done lent
      judge_stands is h = entry_before given done lent judging after given given_zero is h

      module _ (f : feasible_by rules t m ≡ true) where
        -- one of what is checked after it
        pub after_stands : {r : Answer} → r ≡ first_of after (answer_of (verdict_of t m)) → (r.number ≡ 0 → ⊥)
            → outcome r lent ≡ checked (judge_checks rules t m ++ after) (answer_of (verdict_of t m)) done lent
        after_stands is h =
            entry_stands given done lent after (λ e. given_zero f) is h
            ∙ sym (entry_after given done lent judging after f)

        pub after_done : passes after ≡ true
            → checked (judge_checks rules t m ++ after) (answer_of (verdict_of t m)) done lent
            ≡ outcome (answer_of (verdict_of t m)) done
        after_done e = entry_after given done lent judging after f ∙ entry_done given done lent after e

        -- the answer is that of what is checked after it
        pub after_last : (checked (judge_checks rules t m ++ after) (answer_of (verdict_of t m)) done lent).answer
            ≡ first_of after (answer_of (verdict_of t m))
        unfolding checked
        after_last = first_of_pass judging after given f

-- ---- The length of an output

module _ (size : ℕ) (out : List ℕ) where
  pub short_output : (a : Answer) → (length out ≡ size → ⊥) → refused 12 size ≡ first_of (bad_output size out ∷ []) a
  unfolding bad_output first_of
  short_output a other =
      sym (at_place_at (bad_output size out).place size (refused 12) a (unequal (length out) size other))

  pub long_output : length out ≡ size → passes (bad_output size out ∷ []) ≡ true
  unfolding bad_output passes
  long_output fits = at_place_nowhere (bad_output size out).place (λ q. false) true (equal (length out) size fits)
