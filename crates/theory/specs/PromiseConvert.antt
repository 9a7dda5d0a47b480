-- A converter is the reader of one edition and then the writer of the other (convert_write).
-- Proves convert_none, film_told, label_stopped, not_thirteen, film_of besides. Assumes nothing.
use Rattle.std.specs.Prelude.{ℕ, Bool, false, ◌≡◌, refl, ◌⊎◌, List, ◌∷◌}
use native.Mathlib.Omega.{arith}
use Rattle.std.proofs.Math.Bool.{true, not}
use Rattle.std.proofs.Math.Path.{sym, ap}
use Rattle.std.proofs.Common.{◌∙◌, inl, inr}
use Rattle.model.specs.Basics.{every}
use Rattle.model.specs.Plan.{verdict_of}
use Rattle.model.specs.Archive.{archive_of, table_in, marks_in}
use Rattle.model.specs.Refusals.{Check, bad_output, no_archive, no_label, many_nodes, judge_checks, film_checks, write_checks}
use Rattle.model.specs.Refusals.{feasible_plan, feasible_film, answer_of, refused, outcome, checked, Written}
use Rattle.model.specs.Refusals.{write_archive, is_archive, convert_checks, writer_rules, convert_archive}
use Rattle.std.specs.declared.option.Option.TheVariants.{Some, None}
use Rattle.model.specs.Refusals.{Answer}
use Rattle.model.specs.declared.Edition.{Edition}
use Rattle.theory.specs.Ranges.{when_true, when_false, place_cases}
use Rattle.theory.specs.Checks.{never_first}
use Rattle.theory.specs.Entries.{entry_stop, entry_next, entry_after}
use Rattle.theory.specs.PlanFeasible.{film_judged, judged_zero}
use Rattle.theory.specs.PlanFeasible.{filed_feasible}
use Rattle.theory.specs.ArchiveBack.{read_write}
use Rattle.theory.specs.ArchiveAnswers.{unfiled_stops}

module _ (e f : Edition) (a out : List ℕ) where
  -- what the archive tells
  abbrev t : List ℕ
  t = table_in e a

  abbrev m : List ℕ
  m = marks_in e a

  abbrev told : Answer
  told = answer_of (verdict_of t m)

  abbrev film : List Check
  film = film_checks f t m out

  -- 13
  pub convert_none : is_archive e a ≡ false → convert_archive e f a out ≡ outcome (refused 13 0) out
  unfolding convert_archive convert_checks no_archive
  convert_none n =
      entry_stop told _ out (no_archive (is_archive e a)) (no_label t ∷ film) 0
      (when_true (not (is_archive e a)) 0 (ap not n))

  module _ (is : is_archive e a ≡ true) where
    pub film_told : feasible_film e (table_in e a) (marks_in e a) ≡ true
    film_told = (read_write e a is).feasible

    film_next : convert_archive e f a out ≡ checked (no_label t ∷ film) told (archive_of f t m) out
    unfolding convert_archive convert_checks no_archive
    film_next =
        entry_next told _ out (no_archive (is_archive e a)) (no_label t ∷ film)
        (when_false (not (is_archive e a)) 0 (ap not is))

    pub label_stopped : (v : ℕ) → (no_label t).place ≡ Some v → convert_archive e f a out ≡ outcome (refused 14 v) out
    unfolding no_label
    label_stopped v found = film_next ∙ entry_stop told _ out (no_label t) film v found

    label_passed : (no_label t).place ≡ None → convert_archive e f a out ≡ write_archive f t m out
    unfolding write_archive write_checks feasible_plan
    label_passed none =
        film_next ∙ entry_next told _ out (no_label t) film none
        ∙ sym (entry_after told _ out (judge_checks (writer_rules f) t m) film (filed_feasible e t m film_told none))

    -- else it is the writer of the other edition, handed what the archive tells
    pub convert_write : convert_archive e f a out ≡ write_archive f (table_in e a) (marks_in e a) out
    convert_write = go (place_cases (no_label t).place)
      where
        go : ((v : ℕ) × ((no_label t).place ≡ Some v)) ⊎ ((no_label t).place ≡ None)
            → convert_archive e f a out ≡ write_archive f t m out
        go (inl x) = label_stopped x.0 x.1 ∙ sym (unfiled_stops f e t m out film_told x.0 x.1)
        go (inr none) = label_passed none

    pub not_thirteen : (convert_archive e f a out).answer.number ≡ 13 → ⊥
    unfolding checked film_checks no_label many_nodes bad_output every
    not_thirteen h =
        let next = ap (λ (w : Written). w.answer.number) film_next in
        omega (
          arith,
          (never_first 13 (no_label t ∷ film) told (λ p. refl) (sym next ∙ h)).1,
          judged_zero (film_judged e t m film_told),
        )

  -- 13 is for bytes that are no archive
  pub film_of : ((convert_archive e f a out).answer.number ≡ 13 → ⊥) → is_archive e a ≡ true
  film_of h = go (is_archive e a) refl
    where
      go : (b : Bool) → is_archive e a ≡ b → is_archive e a ≡ true
      go true q = q
      go false q = absurd (h (ap (λ (w : Written). w.answer.number) (convert_none q)))
