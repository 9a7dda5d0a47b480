-- What the archive's entries promise beside their equations, in an edition: the writer that every feasible plan is
-- written, and demand 3 (write_promise), the reader demand 2 (read_promise). They rest on the promises of the planner
-- and the judge, and on the laws of writing and reading back.
-- Proves write_promise, writes_again, film_written, read_promise. Assumes nothing.
use Rattle.std.specs.Prelude.{ℕ, ◌≤◌, true, ◌≡◌, refl, ◌↔◌, List, length}
use Rattle.std.proofs.Common.{arith, sym, ◌∙◌, ap₂}
use Rattle.std.proofs.Math.Bool.{false, true≢false}
use Rattle.std.proofs.Math.Path.{ap}
use Rattle.model.specs.Table.{Bytes, max_nodes, node_count, table_bytes}
use Rattle.model.specs.Plan.{verdict_of}
use Rattle.model.specs.Archive.{archive_of, nodes_in, table_in, marks_in}
use Rattle.model.specs.Refusals.{judge_checks, film_checks, first_of, feasible_plan, feasible_film, answer_of, Outcome}
use Rattle.model.specs.Refusals.{outcome, checked, plan_best, Written, write_checks, write_archive, write_film, is_archive}
use Rattle.model.specs.Refusals.{Rules, film_rules, writer_rules, feasible_by, write_by, ReadBuffers, read_archive}
use Rattle.model.specs.Demand.{LowestOnFilm, WritePromise, WrittenFrom, Filed, ReadPromise}
use Rattle.model.specs.Refusals.{Answer}
use Rattle.model.specs.declared.Edition.{Edition}
use Rattle.theory.specs.Bools.{never_true}
use Rattle.theory.specs.Checks.{first_of_append, never_first, judge_fifteen}
use Rattle.theory.specs.TableFacts.{filed_nowhere, unfiled_first}
use Rattle.theory.specs.PlanFeasible.{Judged, feasible_judged, film_judged, judged_verdict}
use Rattle.theory.specs.PlanFeasible.{judged_zero, feasible_film_lem, filed_feasible, film_filed, feasible_filed}
use Rattle.theory.specs.PromiseWeight.{write_weight, read_five}
use Rattle.theory.specs.PromisePlanner.{best_lent, best_plan_lem, best_promise}
use Rattle.theory.specs.ArchiveWords.{Described, length_archive, archive_nodes_lem}
use Rattle.theory.specs.ArchiveBack.{write_read, WritesBack, read_write, table_in-bytes}
use Rattle.theory.specs.ArchiveAnswers.{write_many, write_fifteen, write_kept}
use Rattle.theory.specs.ArchiveAnswers.{WriteDone, writer_done}
use Rattle.theory.specs.ArchiveAnswers.{unfiled_stops, read_none, read_done, read_kept, reader_done}
use Rattle.theory.specs.ArchiveAnswers.{read_thirteen}
use Rattle.theory.proofs.ArchiveAnswers.{write_done}
use Rattle.theory.proofs.ArchiveLowest.{archive_figures, archive_plan, film_lowest}

-- ---- The writer

module _ {e : Edition} (d : Described e) (t m out : List ℕ) where
  -- what the best planner left
  best_film : (lent scratch : List ℕ) → (plan_best t lent scratch).answer.number ≡ 0
      → (plan_best t lent scratch).left.marks ≡ m
      → LowestOnFilm e t (archive_of e t m) (plan_best t lent scratch).answer (answer_of (verdict_of t m))
  best_film lent scratch z is =
      rw is at
      (film_lowest (best_plan_lem t lent scratch) (best_lent t lent scratch z) d (best_promise t lent scratch))

  -- an edition that takes as many nodes as a table has never too few
  never_fifteen : max_nodes ≤ e.most → (write_archive e t m out).answer.number ≡ 15 → ⊥
  unfolding write_archive checked write_checks feasible_plan
  never_fifteen room h =
      let judging = judge_checks (writer_rules e) t m in
      let f =
      (never_first 15 judging (first_of (film_checks e t m out) (answer_of (verdict_of t m)))
      (judge_fifteen (writer_rules e) t m)
      (ap (λ (x : Answer). x.number)
      (sym (first_of_append judging (film_checks e t m out) (answer_of (verdict_of t m))))
      ∙ h)).0 in
      write_fifteen (writer_rules e) e t m out f (omega (arith, (feasible_judged t m f).tree.sound.count_high)) h

  pub write_promise : WritePromise e t m out (write_archive e t m out).answer (write_archive e t m out).left
  unfolding write_archive feasible_plan
  write_promise =
      record {
        accepts =
            λ f few long.
            ap (λ (w : Written). w.answer) (write_done (writer_rules e) e t m out f few long)
            ∙ ap answer_of (judged_verdict (feasible_judged t m f));
        carries =
            λ z.
            let done = writer_done (writer_rules e) e t m out z in
            rw done.wrote (archive_figures d t m done.judged, archive_plan d t m done.judged);
        lowest =
            λ lent scratch z is done.
            rw (writer_done (writer_rules e) e t m out done).wrote (best_film lent scratch z is);
        many = write_many (writer_rules e) e t m out;
        few = never_fifteen;
        kept = write_kept (writer_rules e) e t m out;
        weight = write_weight t m e out;
      }

-- ---- The reader

module _ {e : Edition} (d : Described e) (a : List ℕ) where
  -- an archive that was written under rules that ask as much as those of its edition's film is one, and tells what it
  -- was written from
  module _ (rules : Rules) (film : (u n : List ℕ) → feasible_by rules u n ≡ true → feasible_film e u n ≡ true)
      (u n : List ℕ) (w : WrittenFrom (write_by rules e) u n a) where
    done : WriteDone rules e u n w.out
    done = writer_done rules e u n w.out w.accepts

    same : archive_of e u n ≡ a
    same = sym (ap (λ (x : Written). x.left) done.wrote) ∙ w.leaves

    back : (table_in e a ≡ u) × (marks_in e a ≡ n) × (is_archive e a ≡ true)
    back = rw same at (write_read d w.bytes (film u n done.feasible) done.few)

    nodes : nodes_in e a ≡ node_count u
    nodes = ap (nodes_in e) (sym same) ∙ archive_nodes_lem d u n

    read_back : (table marks : List ℕ) → length table ≡ length u → length marks ≡ length n
        → ((read_archive e a table marks).answer.number ≡ 0) × ((read_archive e a table marks).left.table ≡ u)
        × ((read_archive e a table marks).left.marks ≡ n)
    read_back table marks long-table long-marks =
        let j = done.judged in
        let r =
        read_done e a table marks back.2 (long-table ∙ j.tree.sound.bytes ∙ ap table_bytes (sym nodes))
        (long-marks ∙ j.long ∙ sym nodes) in (
          ap (λ (x : Outcome Answer ReadBuffers). x.answer.number) r
              ∙ ap₂ (λ x y. (answer_of (verdict_of x y)).number) back.0 back.1
              ∙ judged_zero j,
          ap (λ (x : Outcome Answer ReadBuffers). x.left.table) r ∙ back.0,
          ap (λ (x : Outcome Answer ReadBuffers). x.left.marks) r ∙ back.1,
        )

  -- an archive is written again by what it tells, under rules by which that is feasible
  pub writes_again : (rules : Rules) → is_archive e a ≡ true → feasible_by rules (table_in e a) (marks_in e a) ≡ true
      → (out : List ℕ) → length out ≡ length a
      → write_by rules e (table_in e a) (marks_in e a) out
      ≡ outcome (answer_of (verdict_of (table_in e a) (marks_in e a))) a
  writes_again rules is f out long =
      let t : List ℕ = table_in e a in
      let m : List ℕ = marks_in e a in
      let w : WritesBack e a = read_write e a is in
      write_done rules e t m out f (omega (arith, w.few, ap (nodes_in e) w.same, archive_nodes_lem d t m))
      (long ∙ ap length (sym w.same) ∙ length_archive d t m)
      ∙ ap (outcome (answer_of (verdict_of t m))) w.same

  -- what is told
  module _ (is : is_archive e a ≡ true) where
    told : feasible_film e (table_in e a) (marks_in e a) ≡ true
    told = (read_write e a is).feasible

    told_judged : Judged (table_in e a) (marks_in e a)
    told_judged = film_judged e (table_in e a) (marks_in e a) told

    again_film : (out : List ℕ) → length out ≡ length a
        → write_film e (table_in e a) (marks_in e a) out
        ≡ outcome (answer_of (verdict_of (table_in e a) (marks_in e a))) a
    unfolding write_film feasible_film
    again_film = writes_again (film_rules e) is told

    told_filed : e.filed ≡ true → Filed (table_in e a)
    told_filed filed =
        feasible_filed (table_in e a) (marks_in e a) (film_filed e (table_in e a) (marks_in e a) told filed)

    again_filed : Filed (table_in e a)
        → (feasible_plan (table_in e a) (marks_in e a) ≡ true) × ((out : List ℕ) → length out ≡ length a
        → write_archive e (table_in e a) (marks_in e a) out
        ≡ outcome (answer_of (verdict_of (table_in e a) (marks_in e a))) a)
    unfolding write_archive feasible_plan
    again_filed labels =
        let f = filed_feasible e (table_in e a) (marks_in e a) told (filed_nowhere (table_in e a) labels) in
        (f, writes_again (writer_rules e) is f)

    written_again : Bytes a → WrittenFrom (write_film e) (table_in e a) (marks_in e a) a
    written_again b =
        let again = again_film a refl in
        record {
          bytes = table_in-bytes e a b;
          out = a;
          accepts = ap (λ (x : Written). x.answer.number) again ∙ judged_zero told_judged;
          leaves = ap (λ (x : Written). x.left) again;
        }

  -- film of the edition, as far as the writer can tell
  pub film_written : Bytes a → (is_archive e a ≡ false) ↔ ((u n : List ℕ) → WrittenFrom (write_film e) u n a → ⊥)
  unfolding write_film feasible_film
  film_written b = (
    λ h u n w. true≢false (sym (back (film_rules e) (λ x y f. f) u n w).2 ∙ h),
    λ h. never_true (is_archive e a) (λ is. h (table_in e a) (marks_in e a) (written_again is b)),
  )

  module _ (table marks : List ℕ) where
    abbrev read : Outcome Answer ReadBuffers
    read = read_archive e a table marks

    is_archive_lem : read.answer.number ≡ 0 → is_archive e a ≡ true
    is_archive_lem z = (reader_done e a table marks z).0

    pub read_promise : (f : Edition) → (is_archive e a ≡ true → is_archive f a ≡ true → ⊥) → Bytes a
        → ReadPromise e f a table marks (read_archive e a table marks).answer (read_archive e a table marks).left.table
        (read_archive e a table marks).left.marks
    unfolding write_archive write_film feasible_plan feasible_film
    read_promise f apart b =
        record {
          back = λ u n w. read_back (film_rules e) (λ x y h. h) u n w table marks;
          written = λ u n w. read_back (writer_rules e) (feasible_film_lem e) u n w table marks;
          sound =
              λ z. rw (reader_done e a table marks z).1
              (ap answer_of (judged_verdict (told_judged (is_archive_lem z))), told (is_archive_lem z));
          again = λ z. rw (reader_done e a table marks z).1 (again_film (is_archive_lem z));
          labels = λ filed z. rw (reader_done e a table marks z).1 (told_filed (is_archive_lem z) filed);
          filed = λ z. rw (reader_done e a table marks z).1 (again_filed (is_archive_lem z));
          unfiled =
              λ z. rw (reader_done e a table marks z).1
              (λ v first out.
              unfiled_stops e e (table_in e a) (marks_in e a) out (told (is_archive_lem z)) v
              (unfiled_first (table_in e a) v first));
          none = (
            λ h. (film_written b).0 (read_thirteen e a table marks h),
            λ h. thirteen ((film_written b).1 h),
          );
          other =
              λ h u n.
              let none : is_archive f a ≡ false =
              never_true (is_archive f a) (λ is. h (thirteen (never_true (is_archive e a) (λ own. apart own is)))) in
              ap (λ (x : Outcome Answer ReadBuffers). x.answer) (read_none f a u n none);
          kept = read_kept e a table marks;
          five = read_five e a table marks;
        }
      where
        thirteen : is_archive e a ≡ false → read.answer.number ≡ 13
        thirteen n = ap (λ (x : Outcome Answer ReadBuffers). x.answer.number) (read_none e a table marks n)
