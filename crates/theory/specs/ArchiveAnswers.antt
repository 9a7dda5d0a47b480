-- The answers of the archive's writer, under any rules, and of its reader, case by case, and what each tells.
-- Defines WriteDone. Proves film_answer, film_fifteen, film_few, film_long; write_many, write_fourteen, write_fifteen,
-- write_kept, writer_done; unfiled_stops; read_none, read_table, read_marks, read_done, reader_done, read_kept,
-- read_thirteen. Assumes nothing.
use Rattle.std.specs.Prelude.{ℕ, ◌≤◌, ◌<◌, true, false, ◌≡◌, length, eqb, ltb}
use Rattle.std.proofs.Common.{arith, sym, ◌∙◌}
use Rattle.std.proofs.Math.Bool.{not}
use Rattle.std.proofs.Math.Path.{refl, ap, ap₂}
use mathlib.Core.List.{List, [], ◌∷◌, ◌++◌}
use borrow.Author.Tests.{not-false, eqb-true, ltb-false, lt-ltb, le-ltb}
use Rattle.model.specs.Basics.{when, at_place, every}
use Rattle.model.specs.Table.{node_count, table_bytes}
use Rattle.model.specs.Plan.{page_count, verdict_of}
use Rattle.model.specs.Archive.{archive_of, archive_bytes, nodes_in, table_in, marks_in}
use Rattle.model.specs.Refusals.{bad_marks, bad_output, no_archive, many_nodes, judge_checks, film_checks, back_checks}
use Rattle.model.specs.Refusals.{write_checks, read_checks, passes, answer_of, refused, first_of, no_label, feasible_film}
use Rattle.model.specs.Refusals.{Check, Rules, writer_rules, feasible_by, Outcome, outcome, checked, write_by}
use Rattle.model.specs.Refusals.{write_archive, is_archive, ReadBuffers, read_left, read_archive}
use Rattle.model.specs.declared.Edition.{Edition}
use Rattle.std.specs.declared.option.Option.TheVariants.{Some}
use Rattle.model.specs.Refusals.{Answer}
use Rattle.theory.specs.Bools.{never_true}
use Rattle.theory.specs.Ranges.{when_true, when_false, when_nowhere, at_place_at, at_place_nowhere}
use Rattle.theory.specs.Checks.{Pass, pass_all, first_of_append, Never, never_first, film_plain, read_plain}
use Rattle.theory.specs.Entries.{unequal, equal, entry_none, entry_stop, entry_next, entry_passed}
use Rattle.theory.specs.Entries.{entry_accepted, entry_kept}
use Rattle.theory.specs.PlanFeasible.{Judged, with_judged, film_judged, judged_zero, label_stops}
use Rattle.theory.specs.JudgedEntries.{given_zero, after_never, after_parts, after_zero, after_last}
use Rattle.theory.specs.ArchiveBack.{read_write}

-- ---- What is checked of the film

module _ (e : Edition) (t m out : List ℕ) where
  film_fourteen : Never 14 (film_checks e t m out)
  unfolding every film_checks many_nodes bad_output
  film_fourteen p = refl

  abbrev size : ℕ
  size = archive_bytes e (page_count t m) (node_count t)

  -- 15, then 12, as a program puts its answer together of N and the right length
  pub film_answer : (a : Answer) {r : Answer} {n bytes : ℕ}
      → r ≡ at_place (when (ltb e.most n) n) (refused 15)
      (at_place (when (not (eqb (length out) bytes)) bytes) (refused 12) a)
      → n ≡ node_count t → bytes ≡ archive_bytes e (page_count t m) (node_count t) → r ≡ first_of (film_checks e t m out) a
  unfolding first_of film_checks many_nodes bad_output
  film_answer a is n-is bytes-is =
      is
      ∙ ap₂ (λ n k. at_place (when (ltb e.most n) n) (refused 15)
      (at_place (when (not (eqb (length out) k)) k) (refused 12) a)) n-is bytes-is

  -- 15 before 12, whatever the output
  film_many : (a : Answer) → e.most < node_count t → first_of (film_checks e t m out) a ≡ refused 15 (node_count t)
  unfolding first_of film_checks many_nodes
  film_many a many =
      at_place_at (many_nodes e t).place (node_count t) (refused 15) _
      (when_true (ltb e.most (node_count t)) (node_count t) (lt-ltb e.most (node_count t) many))

  -- 15 is for more nodes than the edition takes, and for nothing else
  pub film_fifteen : (a : Answer) → node_count t ≤ e.most → (first_of (film_checks e t m out) a).number ≡ 15
      → a.number ≡ 15
  unfolding first_of film_checks many_nodes bad_output every
  film_fifteen a few h =
      let next =
      at_place_nowhere (many_nodes e t).place (refused 15) (first_of (bad_output size out ∷ []) a)
      (when_false (ltb e.most (node_count t)) (node_count t) (le-ltb e.most (node_count t) few)) in
      (never_first 15 (bad_output size out ∷ []) a (λ p. refl) (sym (ap (λ (x : Answer). x.number) next) ∙ h)).1

  -- where both pass, the edition takes so many nodes, and the output has the right length
  pub film_few : passes (film_checks e t m out) ≡ true
      → (node_count t ≤ e.most) × (length out ≡ archive_bytes e (page_count t m) (node_count t))
  unfolding Pass film_checks many_nodes bad_output
  film_few p =
      let all = (pass_all (film_checks e t m out)).0 p in (
        ltb-false e.most (node_count t) (when_nowhere (ltb e.most (node_count t)) (node_count t) all.0),
        eqb-true (length out) size (not-false (eqb (length out) size) (when_nowhere _ size all.1.0)),
      )

  pub film_long : node_count t ≤ e.most → length out ≡ archive_bytes e (page_count t m) (node_count t)
      → passes (film_checks e t m out) ≡ true
  unfolding Pass film_checks many_nodes bad_output
  film_long few fits =
      (pass_all (film_checks e t m out)).1 (
        when_false (ltb e.most (node_count t)) (node_count t) (le-ltb e.most (node_count t) few),
        (equal (length out) size fits, tt),
      )

-- ---- The writer under rules

module _ (rules : Rules) (e : Edition) (t m out : List ℕ) where
  abbrev film : List Check
  film = film_checks e t m out

  write_last : feasible_by rules t m ≡ true
      → (write_by rules e t m out).answer ≡ first_of (film_checks e t m out) (answer_of (verdict_of t m))
  unfolding write_checks
  write_last f = after_last rules t m film _ _ f

  -- 15: more nodes than the edition takes
  pub write_many : feasible_by rules t m ≡ true → e.most < node_count t
      → (write_by rules e t m out).answer ≡ refused 15 (node_count t)
  write_many f many = write_last f ∙ film_many e t m out _ many

  -- what the film is refused for, but for its length: no label, and where the edition takes so many nodes nothing else
  pub write_fourteen : feasible_by rules t m ≡ true → (write_by rules e t m out).answer.number ≡ 14 → ⊥
  write_fourteen f h =
      omega (
        arith,
        (never_first 14 film _ (film_fourteen e t m out) (sym (ap (λ (x : Answer). x.number) (write_last f)) ∙ h)).1,
        given_zero rules t m f,
      )

  pub write_fifteen : feasible_by rules t m ≡ true → node_count t ≤ e.most
      → (write_by rules e t m out).answer.number ≡ 15 → ⊥
  write_fifteen f few h =
      omega (
        arith,
        film_fifteen e t m out _ few (sym (ap (λ (x : Answer). x.number) (write_last f)) ∙ h),
        given_zero rules t m f,
      )

  -- on refusal the output is as lent
  pub write_kept : ((write_by rules e t m out).answer.number ≡ 0 → ⊥) → (write_by rules e t m out).left ≡ out
  unfolding write_checks
  write_kept h = entry_kept _ _ out (judge_checks rules t m ++ film) (after_zero rules t m film) h

  -- ---- What the writer's answer tells: it wrote an archive, or none of that length is written

  pub record WriteDone : Type 0 where
    pub feasible : feasible_by rules t m ≡ true
    pub judged : Judged t m
    pub few : node_count t ≤ e.most
    pub wrote : write_by rules e t m out ≡ outcome (answer_of (verdict_of t m)) (archive_of e t m)

  pub writer_done : (write_by rules e t m out).answer.number ≡ 0 → WriteDone
  unfolding write_checks
  writer_done z =
      let never = after_never rules t m film (film_plain e t m out).0 in
      let parts = after_parts rules t m film (entry_passed _ _ out (judge_checks rules t m ++ film) never z) in
      record {
        feasible = parts.0;
        judged = with_judged rules t m parts.0;
        few = (film_few e t m out parts.1).0;
        wrote = entry_accepted _ _ out (judge_checks rules t m ++ film) never z;
      }

-- the writer of an edition, handed a tree and a plan from film, in which nothing but a label is refused
pub unfiled_stops : (e f : Edition) (t m out : List ℕ) → feasible_film f t m ≡ true → (v : ℕ) → (no_label t).place ≡ Some v
    → write_archive e t m out ≡ outcome (refused 14 v) out
unfolding write_archive checked write_checks
unfiled_stops e f t m out film v found =
    ap₂ outcome answer
    (write_kept (writer_rules e) e t m out (λ z. omega (arith, ap (λ (r : Answer). r.number) answer)))
  where
    answer : first_of (judge_checks (writer_rules e) t m ++ film_checks e t m out) (answer_of (verdict_of t m)) ≡ refused 14 v
    answer =
        first_of_append (judge_checks (writer_rules e) t m) (film_checks e t m out) _ ∙ label_stops f t m film v found _

-- ---- The reader

module _ (e : Edition) (a t m : List ℕ) where
  abbrev verdict_in : Answer
  verdict_in = answer_of (verdict_of (table_in e a) (marks_in e a))

  abbrev nodes : ℕ
  nodes = nodes_in e a

  abbrev told : ReadBuffers
  told = record { table = table_in e a; marks = marks_in e a }

  abbrev lent : ReadBuffers
  lent = record { table = t; marks = m }

  -- 13
  pub read_none : is_archive e a ≡ false → read_archive e a t m ≡ read_left (refused 13 0) t m
  unfolding read_archive read_checks no_archive
  read_none n =
      entry_stop verdict_in told lent (no_archive (is_archive e a)) (back_checks nodes t m) 0
      (when_true (not (is_archive e a)) 0 (ap not n))

  module _ (is : is_archive e a ≡ true) where
    archive_next : read_archive e a t m ≡ checked (back_checks nodes t m) verdict_in told lent
    unfolding read_archive read_checks no_archive
    archive_next =
        entry_next verdict_in told lent (no_archive (is_archive e a)) (back_checks nodes t m)
        (when_false (not (is_archive e a)) 0 (ap not is))

    -- 12
    pub read_table : (length t ≡ table_bytes (nodes_in e a) → ⊥)
        → read_archive e a t m ≡ read_left (refused 12 (table_bytes (nodes_in e a))) t m
    unfolding back_checks bad_output
    read_table other =
        archive_next
        ∙ entry_stop verdict_in told lent (bad_output (table_bytes nodes) t) (bad_marks nodes m ∷ []) (table_bytes nodes)
        (unequal (length t) (table_bytes nodes) other)

    module _ (fits : length t ≡ table_bytes (nodes_in e a)) where
      table_next : read_archive e a t m ≡ checked (bad_marks nodes m ∷ []) verdict_in told lent
      unfolding back_checks bad_output
      table_next =
          archive_next
          ∙ entry_next verdict_in told lent (bad_output (table_bytes nodes) t) (bad_marks nodes m ∷ [])
          (equal (length t) (table_bytes nodes) fits)

      -- 8
      pub read_marks : (length m ≡ nodes_in e a → ⊥) → read_archive e a t m ≡ read_left (refused 8 (nodes_in e a)) t m
      unfolding bad_marks
      read_marks other =
          table_next ∙ entry_stop verdict_in told lent (bad_marks nodes m) [] nodes (unequal (length m) nodes other)

      pub read_done : length m ≡ nodes_in e a
          → read_archive e a t m
          ≡ read_left (answer_of (verdict_of (table_in e a) (marks_in e a))) (table_in e a) (marks_in e a)
      unfolding bad_marks
      read_done long =
          table_next ∙ entry_next verdict_in told lent (bad_marks nodes m) [] (equal (length m) nodes long)
          ∙ entry_none verdict_in told lent

  -- ---- What the reader's answer tells: the bytes are an archive, and the table and the marks are those that it tells

  pass_archive : passes (read_checks e a t m) ≡ true → is_archive e a ≡ true
  unfolding Pass read_checks no_archive
  pass_archive p =
      not-false (is_archive e a) (when_nowhere (not (is_archive e a)) 0 ((pass_all (read_checks e a t m)).0 p).0)

  -- an archive's own answer is acceptance
  archive_zero : is_archive e a ≡ true → (answer_of (verdict_of (table_in e a) (marks_in e a))).number ≡ 0
  archive_zero is = judged_zero (film_judged e (table_in e a) (marks_in e a) (read_write e a is).feasible)

  pub reader_done : (read_archive e a t m).answer.number ≡ 0
      → (is_archive e a ≡ true)
      × (read_archive e a t m
      ≡ read_left (answer_of (verdict_of (table_in e a) (marks_in e a))) (table_in e a) (marks_in e a))
  unfolding read_archive
  reader_done z = (
    pass_archive (entry_passed verdict_in told lent (read_checks e a t m) (read_plain e a t m).0 z),
    entry_accepted verdict_in told lent (read_checks e a t m) (read_plain e a t m).0 z,
  )

  -- on refusal the table and the marks are as lent
  pub read_kept : ((read_archive e a t m).answer.number ≡ 0 → ⊥)
      → ((read_archive e a t m).left.table ≡ t) × ((read_archive e a t m).left.marks ≡ m)
  unfolding read_archive
  read_kept h =
      let kept = entry_kept verdict_in told lent (read_checks e a t m) (λ p. archive_zero (pass_archive p)) h in
      (ap (λ (x : ReadBuffers). x.table) kept, ap (λ (x : ReadBuffers). x.marks) kept)

  -- 13 is for bytes that are no archive
  pub read_thirteen : (read_archive e a t m).answer.number ≡ 13 → is_archive e a ≡ false
  unfolding checked back_checks bad_output bad_marks every
  read_thirteen h =
      never_true (is_archive e a)
      (λ is.
      let given = ap (λ (x : Outcome Answer ReadBuffers). x.answer.number) (archive_next is) in
      let last = never_first 13 (back_checks nodes t m) verdict_in (λ p. refl) (sym given ∙ h) in
      omega (arith, last.1, archive_zero is))
