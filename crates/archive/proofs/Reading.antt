-- The reader of an edition, at each of its ends: 13, 12, 8, and what the film tells. Proves read_refused,
-- table_refused, marks_refused, read_opened; and what its entries promise: read_entry. Assumes nothing.
use Rattle.std.specs.Prelude.{ℕ, true, false, ◌≡◌, List, length}
use Rattle.std.proofs.Common.{sym, ap, ap₂, ◌∙◌}
use Rattle.model.specs.Table.{Bytes}
use Rattle.model.specs.Refusals.{Answer, ReadBuffers, refused, outcome, is_archive, read_left, read_archive}
use Rattle.model.specs.Demand.{ReadPromise}
use Rattle.model.specs.declared.Edition.{Edition}
use Rattle.theory.specs.ArchiveWords.{Described}
use Rattle.theory.specs.Entries.{promised}
use Rattle.theory.specs.ArchiveAnswers.{read_none, read_table, read_marks, read_done}
use Rattle.theory.proofs.PromiseArchive.{read_promise}
use Rattle.archive.specs.Opened.{Opened}

pub read_refused : (e : Edition) (a t m : List ℕ) {r : Answer} → (r ≡ refused 13 0) × (is_archive e a ≡ false)
    → read_left r t m ≡ read_archive e a t m
read_refused e a t m none = ap (λ (x : Answer). read_left x t m) none.0 ∙ sym (read_none e a t m none.1)

module _ {e : Edition} {a table marks : List ℕ} {r : Answer} (film : Opened e a table marks r) (t m : List ℕ) where
  pub table_refused : (length t ≡ length table → ⊥) → read_left (refused 12 (length table)) t m ≡ read_archive e a t m
  table_refused other =
      ap (λ n. read_left (refused 12 n) t m) film.table_long
      ∙ sym (read_table e a t m film.film (λ long. other (long ∙ sym film.table_long)))

  module _ (long : length t ≡ length table) where
    pub marks_refused : (length m ≡ length marks → ⊥)
        → read_left (refused 8 (length marks)) t m ≡ read_archive e a t m
    marks_refused other =
        ap (λ n. read_left (refused 8 n) t m) film.marks_long
        ∙ sym
        (read_marks e a t m film.film (long ∙ film.table_long) (λ same. other (same ∙ sym film.marks_long)))

    pub read_opened : {x y : List ℕ} → length m ≡ length marks → x ≡ table → y ≡ marks
        → read_left r x y ≡ read_archive e a t m
    read_opened same tables_are marks_are =
        ap₂ outcome film.verdict
        (ap₂ {C = ReadBuffers} (λ (t m : List ℕ). record { table = t; marks = m }) (tables_are ∙ film.table_told)
        (marks_are ∙ film.marks_told))
        ∙ sym (read_done e a t m film.film (long ∙ film.table_long) (same ∙ film.marks_long))

-- an entry, which reads the edition e; and no film is of both editions
pub read_entry : {e f given : Edition} → Described e → given ≡ e → (a t m : List ℕ)
    → (is_archive e a ≡ true → is_archive f a ≡ true → ⊥) → Bytes a → {r : Answer} {x y : List ℕ}
    → read_left r x y ≡ read_archive given a t m → ReadPromise e f a t m r x y
read_entry {e} {f} d is a t m apart bytes read =
    (promised (λ (x : Answer) (b : ReadBuffers). ReadPromise e f a t m x b.table b.marks)
    (read_promise d a t m f apart bytes) (read ∙ ap (λ (x : Edition). read_archive x a t m) is)).1
