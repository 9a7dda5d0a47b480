-- What the converters promise beside their equation (convert_promise). A converter is the reader of one edition and then
-- the writer of the other: so it keeps what was told, and there and back is two uses of 'what is read is what writing
-- gives'. Assumes nothing.
use Rattle.std.specs.Prelude.{ℕ, ◌≤◌, false, ◌≡◌, ◌⊎◌, List, length}
use native.Mathlib.Omega.{arith}
use Rattle.std.proofs.Math.Bool.{true}
use Rattle.std.proofs.Math.Path.{sym, ap, ap₂}
use Rattle.std.proofs.Common.{◌∙◌, subst, inl, inr}
use Rattle.model.specs.Table.{Bytes, node_count}
use Rattle.model.specs.Plan.{page_count, verdict_of}
use Rattle.model.specs.Archive.{archive_of, archive_bytes, nodes_in, pages_in, table_in, marks_in}
use Rattle.model.specs.Refusals.{no_label}
use Rattle.model.specs.Refusals.{read_checks, feasible_plan, answer_of, refused, outcome, Written}
use Rattle.model.specs.Refusals.{write_archive, is_archive, read_archive, writer_rules, convert_archive}
use Rattle.model.specs.Demand.{WritePromise, Filed, ConvertPromise}
use Rattle.std.specs.declared.option.Option.TheVariants.{Some, None}
use Rattle.model.specs.declared.Edition.{Edition}
use Rattle.theory.specs.Bools.{bool_cases, never_true}
use Rattle.theory.specs.Ranges.{place_cases}
use Rattle.theory.specs.TableFacts.{filed_nowhere, unfiled_first}
use Rattle.theory.specs.PlanFeasible.{feasible_judged, judged_zero}
use Rattle.theory.specs.PlanFeasible.{feasible_film_lem, filed_feasible, film_filed}
use Rattle.theory.specs.PromiseWeight.{convert_five}
use Rattle.theory.specs.ArchiveWords.{Described, archive_nodes_lem, archive_pages}
use Rattle.theory.specs.ArchiveBack.{write_read, read_write, table_in-bytes}
use Rattle.theory.specs.ArchiveAnswers.{write_fifteen, WriteDone, writer_done}
use Rattle.theory.specs.ArchiveAnswers.{write_fourteen}
use Rattle.theory.specs.PromiseConvert.{convert_none, film_told, label_stopped, convert_write, not_thirteen, film_of}
use Rattle.theory.proofs.ArchiveAnswers.{write_done}
use Rattle.theory.proofs.PromiseArchive.{write_promise, writes_again, film_written}

module _ {e f : Edition} (d : Described e) (d' : Described f) (a out : List ℕ) (bytes : Bytes a) where
  abbrev converted : Written
  converted = convert_archive e f a out

  abbrev given : ℕ
  given = converted.answer.number

  -- what the writer promises, handed what the archive tells
  promise : is_archive e a ≡ true
      → WritePromise f (table_in e a) (marks_in e a) out converted.answer converted.left
  promise is =
      subst (λ (w : Written). WritePromise f (table_in e a) (marks_in e a) out w.answer w.left)
      (sym (convert_write e f a out is))
      (write_promise d' (table_in e a) (marks_in e a) out)

  told_nodes : is_archive e a ≡ true → node_count (table_in e a) ≡ nodes_in e a
  told_nodes is =
      sym (archive_nodes_lem d (table_in e a) (marks_in e a)) ∙ ap (nodes_in e) (read_write e a is).same

  told_pages : is_archive e a ≡ true → page_count (table_in e a) (marks_in e a) ≡ pages_in e a
  told_pages is =
      sym (archive_pages d (table_in e a) (marks_in e a)) ∙ ap (pages_in e) (read_write e a is).same

  plan : is_archive e a ≡ true → Filed (table_in e a) → feasible_plan (table_in e a) (marks_in e a) ≡ true
  plan is labels =
      filed_feasible e (table_in e a) (marks_in e a) (film_told e f a out is) (filed_nowhere (table_in e a) labels)

  -- ---- What it accepted

  module _ (z : given ≡ 0) where
    is : is_archive e a ≡ true
    is = film_of e f a out (λ h. omega arith)

    done : WriteDone (writer_rules f) f (table_in e a) (marks_in e a) out
    unfolding write_archive
    done =
        writer_done (writer_rules f) f (table_in e a) (marks_in e a) out
        (sym (ap (λ (w : Written). w.answer.number) (convert_write e f a out is)) ∙ z)

    left : converted
        ≡ outcome (answer_of (verdict_of (table_in e a) (marks_in e a))) (archive_of f (table_in e a) (marks_in e a))
    unfolding write_archive
    left = convert_write e f a out is ∙ done.wrote

    -- it tells what was told
    back : (table_in f (archive_of f (table_in e a) (marks_in e a)) ≡ table_in e a)
        × (marks_in f (archive_of f (table_in e a) (marks_in e a)) ≡ marks_in e a)
        × (is_archive f (archive_of f (table_in e a) (marks_in e a)) ≡ true)
    unfolding feasible_plan
    back =
        write_read d' (table_in-bytes e a bytes) (feasible_film_lem f (table_in e a) (marks_in e a) done.feasible)
        done.few

    same_nodes : nodes_in f (archive_of f (table_in e a) (marks_in e a)) ≡ nodes_in e a
    same_nodes = archive_nodes_lem d' (table_in e a) (marks_in e a) ∙ told_nodes is

    same_read : (table marks : List ℕ) → read_archive f converted.left table marks ≡ read_archive e a table marks
    unfolding read_archive read_checks
    same_read table marks = rw (left, back.2, is, same_nodes, back.0, back.1)

    and_back : (lent : List ℕ) → length lent ≡ length a
        → convert_archive f e converted.left lent ≡ outcome converted.answer a
    unfolding write_archive
    and_back lent long =
        rw left
        (convert_write f e (archive_of f (table_in e a) (marks_in e a)) lent back.2
        ∙ ap₂ (λ x y. write_archive e x y lent) back.0 back.1
        ∙ writes_again d a (writer_rules e) is done.feasible lent long)

  -- ---- What it refused

  not_fourteen : e.filed ≡ true → given ≡ 14 → ⊥
  unfolding write_archive feasible_plan
  not_fourteen filed h =
      let is = film_of e f a out (λ q. omega arith) in
      write_fourteen (writer_rules f) f (table_in e a) (marks_in e a) out
      (film_filed e (table_in e a) (marks_in e a) (film_told e f a out is) filed)
      (sym (ap (λ (w : Written). w.answer.number) (convert_write e f a out is)) ∙ h)

  not_fifteen : e.most ≤ f.most → given ≡ 15 → ⊥
  unfolding write_archive feasible_plan
  not_fifteen room h =
      let is = film_of e f a out (λ q. omega arith) in
      let number = sym (ap (λ (w : Written). w.answer.number) (convert_write e f a out is)) in
      go is number (place_cases (no_label (table_in e a)).place)
    where
      go : is_archive e a ≡ true → (write_archive f (table_in e a) (marks_in e a) out).answer.number ≡ given
          → ((v : ℕ) × ((no_label (table_in e a)).place ≡ Some v)) ⊎ ((no_label (table_in e a)).place ≡ None) → ⊥
      go is number (inl x) =
          omega (arith, ap (λ (w : Written). w.answer.number) (label_stopped e f a out is x.0 x.1))
      go is number (inr none) =
          write_fifteen (writer_rules f) f (table_in e a) (marks_in e a) out
          (filed_feasible e (table_in e a) (marks_in e a) (film_told e f a out is) none)
          (omega (arith, told_nodes is, (read_write e a is).few))
          (number ∙ h)

  pub convert_promise : ConvertPromise e f a out (convert_archive e f a out).answer (convert_archive e f a out).left
  unfolding feasible_plan write_archive
  convert_promise =
      record {
        none = (
          λ h. (film_written d a bytes).0 (never_true (is_archive e a) (λ is. not_thirteen e f a out is h)),
          λ h. ap (λ (w : Written). w.answer.number) (convert_none e f a out ((film_written d a bytes).1 h)),
        );
        unfiled =
            λ h v first.
            ap (λ (w : Written). w.answer)
            (label_stopped e f a out (film_of e f a out h) v (unfiled_first (table_in e a) v first));
        labels = not_fourteen;
        many =
            λ h labels many.
            let is = film_of e f a out h in
            (promise is).many (plan is labels) (omega (arith, told_nodes is)) ∙ ap (refused 15) (told_nodes is);
        few = not_fifteen;
        accepts =
            λ h labels few long.
            let is = film_of e f a out h in
            ap (λ (w : Written). w.answer.number)
            (convert_write e f a out is
            ∙ write_done (writer_rules f) f (table_in e a) (marks_in e a) out (plan is labels)
            (omega (arith, told_nodes is))
            (long ∙ ap₂ (archive_bytes f) (sym (told_pages is)) (sym (told_nodes is))))
            ∙ judged_zero (feasible_judged (table_in e a) (marks_in e a) (plan is labels));
        carries = λ z. (promise (is z)).carries z;
        same = same_read;
        back = and_back;
        lowest = λ lent scratch y best z. (promise (is z)).lowest lent scratch y best z;
        kept = kept;
        five = convert_five e f a out;
      }
    where
      kept : (given ≡ 0 → ⊥) → converted.left ≡ out
      kept other = go (bool_cases (is_archive e a))
        where
          go : (is_archive e a ≡ true) ⊎ (is_archive e a ≡ false) → converted.left ≡ out
          go (inl y) = (promise y).kept other
          go (inr n) = ap (λ (w : Written). w.left) (convert_none e f a out n)
