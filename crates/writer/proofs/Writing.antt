-- The ends of the writer of an edition under rules, as the program comes to them: the judge's refusal, 15, 12, and the
-- archive; and what its entries promise. Proves judge_refuses, many_refused, length_refused, written;
-- write_entry. Assumes nothing.
use Rattle.std.proofs.Common.{◌≡◌, ◌<◌, ◌≤◌, ℕ, Bool, true, List, length, refl, sym, ap, ap₂, ◌∙◌, arith, lt-ltb, le-ltb}
use Rattle.model.specs.Table.{node_count}
use Rattle.model.specs.Plan.{page_count}
use Rattle.model.specs.Archive.{archive_of, archive_bytes}
use Rattle.model.specs.Refusals.{Rules, Answer, refused, answer_of, refusal_answer, film_checks, write_checks}
use Rattle.model.specs.Refusals.{feasible_by, judge_by, outcome, write_by, write_archive}
use Rattle.model.specs.Demand.{WritePromise}
use Rattle.model.specs.declared.Edition.{Edition}
use Rattle.model.specs.declared.Verdict.TheVariants.{Feasible}
use Rattle.model.specs.declared.Refusal.{Refusal}
use Rattle.theory.specs.ArchiveWords.{Described}
use Rattle.theory.specs.Ranges.{when_true, when_false, at_place_at, at_place_nowhere}
use Rattle.theory.specs.Entries.{promised, unequal}
use Rattle.theory.specs.JudgedEntries.{judge_passes, judge_given, judge_stands, after_stands}
use Rattle.theory.specs.ArchiveAnswers.{film_answer}
use Rattle.theory.specs.Refused.{refusal_number}
use Rattle.theory.proofs.ArchiveAnswers.{write_done}
use Rattle.theory.proofs.PromiseArchive.{write_promise}

module _ (rules : Rules) (e : Edition) (t m out : List ℕ) where
  pub judge_refuses : (r : Refusal) → refusal_answer r ≡ judge_by rules t m
      → outcome (refusal_answer r) out ≡ write_by rules e t m out
  unfolding write_checks
  judge_refuses r is = judge_stands rules t m (film_checks e t m out) _ out is (refusal_number r)

  -- of a plan that the judge finds feasible
  module _ (pages root : ℕ) (is : answer_of (Feasible pages root) ≡ judge_by rules t m) where
    feasible : feasible_by rules t m ≡ true
    feasible = judge_passes rules t m (sym (ap (λ (x : Answer). x.number) is))

    pub many_refused : {n : ℕ} → n ≡ node_count t → e.most < n → outcome (refused 15 n) out ≡ write_by rules e t m out
    unfolding write_checks
    many_refused {n} count many =
        after_stands rules t m (film_checks e t m out) _ out feasible
        (film_answer e t m out _ (sym (at_place_at _ n (refused 15) _ (when_true _ n (lt-ltb e.most n many)))) count
        refl)
        (λ z. omega arith)

    pub length_refused : {n size : ℕ} → n ≡ node_count t → n ≤ e.most → size ≡ archive_bytes e (page_count t m) n
        → (length out ≡ size → ⊥) → outcome (refused 12 size) out ≡ write_by rules e t m out
    unfolding write_checks
    length_refused {n} {size} count few size_is other =
        after_stands rules t m (film_checks e t m out) _ out feasible
        (film_answer e t m out _
        (sym
        (at_place_nowhere _ (refused 15) _ (when_false _ n (le-ltb e.most n few))
        ∙ at_place_at _ size (refused 12) _ (unequal (length out) size other)))
        count (size_is ∙ ap (archive_bytes e (page_count t m)) count))
        (λ z. omega arith)

    pub written : {left : List ℕ} → node_count t ≤ e.most
        → length out ≡ archive_bytes e (page_count t m) (node_count t)
        → left ≡ archive_of e t m → outcome (answer_of (Feasible pages root)) left ≡ write_by rules e t m out
    written few long is_left =
        ap₂ outcome (is ∙ judge_given rules t m feasible) is_left ∙ sym (write_done rules e t m out feasible few long)

-- an entry, which writes the edition e, and refuses 14
pub write_entry : {e f : Edition} → Described e → f ≡ e → (t m out : List ℕ) {r : Answer} {left : List ℕ} {filed : Bool}
    → outcome r left ≡ write_by (record { filed = filed }) f t m out → filed ≡ true
    → (outcome r left ≡ write_archive e t m out) × WritePromise e t m out r left
unfolding write_archive
write_entry {e} d is t m out wrote filed =
    promised (WritePromise e t m out) (write_promise d t m out)
    (wrote ∙ ap₂ (λ (b : Bool) (x : Edition). write_by (record { filed = b }) x t m out) filed is)
