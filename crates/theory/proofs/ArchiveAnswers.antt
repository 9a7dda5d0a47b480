-- The archive's writer, under any rules: it writes a plan in which the judge finds nothing, where the edition takes so many
-- nodes and the output is as long as the film (write_done); and where it refuses, no archive of that length is written
-- from the tree and the plan (writer_refused). Assumes nothing.
use Rattle.std.specs.Prelude.{ℕ, ◌≤◌, true, false, ◌&&◌, ◌≡◌, List, length}
use Rattle.std.proofs.Common.{arith, sym, ◌∙◌}
use Rattle.std.proofs.Math.Path.{ap}
use Rattle.model.specs.Basics.{same_list}
use Rattle.model.specs.Table.{node_count}
use Rattle.model.specs.Plan.{page_count, verdict_of}
use Rattle.model.specs.Archive.{archive_of, archive_bytes, nodes_in}
use Rattle.model.specs.Refusals.{film_checks, write_checks, answer_of, Rules, feasible_by, outcome, Written, write_by}
use Rattle.model.specs.declared.Edition.{Edition}
use Rattle.theory.specs.Bools.{never_true, both_true}
use Rattle.theory.specs.JudgedEntries.{given_zero, after_done}
use Rattle.theory.specs.ArchiveWords.{Described, length_archive, archive_nodes_lem}
use Rattle.theory.specs.ArchiveBack.{same_list_true}
use Rattle.theory.specs.ArchiveAnswers.{film_long}

module _ (rules : Rules) (e : Edition) (t m out : List ℕ) where
  pub write_done : feasible_by rules t m ≡ true → node_count t ≤ e.most
      → length out ≡ archive_bytes e (page_count t m) (node_count t)
      → write_by rules e t m out ≡ outcome (answer_of (verdict_of t m)) (archive_of e t m)
  unfolding write_checks
  write_done f few fits = after_done rules t m (film_checks e t m out) _ _ f (film_long e t m out few fits)

  pub writer_refused : Described e → ((write_by rules e t m out).answer.number ≡ 0 → ⊥) → (a : List ℕ)
      → nodes_in e a ≤ e.most → length out ≡ length a
      → (feasible_by rules t m && same_list (archive_of e t m) a) ≡ false
  writer_refused d h a few long =
      never_true _
      (λ y.
      let both = both_true (feasible_by rules t m) (same_list (archive_of e t m) a) y in
      let same : archive_of e t m ≡ a = same_list_true (archive_of e t m) a both.1 in
      h
      (ap (λ (w : Written). w.answer.number)
      (write_done both.0 (omega (arith, ap (nodes_in e) same, archive_nodes_lem d t m))
      (long ∙ ap length (sym same) ∙ length_archive d t m))
      ∙ given_zero rules t m both.0))
