-- What the reader learns of a candidate, and of the film.
-- Defines CopyJudged, Told. Proves copy_refused, copy_long, copy_stopped, copy_differs, copy_same; told_many,
-- told_copy. Assumes nothing.
use Rattle.std.specs.Prelude.{ℕ, ◌≤◌, ◌<◌, true, false, ◌&&◌, ◌≡◌, List, length, leb}
use Rattle.std.proofs.Common.{arith, ◌∙◌}
use Rattle.std.proofs.Math.Bool.{true≢false}
use Rattle.std.proofs.Math.Path.{sym, ap, ap₂}
use Rattle.std.proofs.Math.ListN.{take}
use Rattle.model.specs.Basics.{same_list}
use Rattle.model.specs.Table.{Bytes, table_bytes}
use Rattle.model.specs.Plan.{verdict_of}
use Rattle.model.specs.Archive.{archive_of, nodes_in, table_in, marks_in}
use Rattle.model.specs.Refusals.{feasible_film, refused, answer_of, outcome, Written, film_rules, write_by, is_archive}
use Rattle.model.specs.Refusals.{Answer}
use Rattle.model.specs.declared.Edition.{Edition}
use Rattle.theory.specs.Bools.{never_true, both_true, and_false_right}
use Rattle.theory.specs.JudgeAnswers.{page_count_le}
use Rattle.theory.specs.ArchiveWords.{length_archive, archive_nodes_lem}
use Rattle.theory.specs.ArchiveBack.{same_list_true, write_read}
use Rattle.theory.specs.ArchiveAnswers.{WriteDone, writer_done}
use Rattle.theory.proofs.ArchiveAnswers.{writer_refused}
use Rattle.records.specs.Size.{longest_archive, InRoom, fits_longest}
use Rattle.film.specs.Decoded.{Decoded, too_many}

-- ---- A candidate: an archive of bytes and the tree and the plan that were decoded of it

-- It was accepted, and is what the archive tells; or it was refused with 13, and does not write the archive.
pub record CopyJudged (e : Edition) (a t m : List ℕ) (r : Answer) : Type 0 where
  pub accepts : r.number ≡ 0
      → (is_archive e a ≡ true) × (table_in e a ≡ t) × (marks_in e a ≡ m) × (r ≡ answer_of (verdict_of t m))
  pub refuses : (r.number ≡ 0 → ⊥)
      → (r ≡ refused 13 0) × ((feasible_film e t m && same_list (archive_of e t m) a) ≡ false)

pub copy_refused : {e : Edition} {a t m : List ℕ} {r : Answer} → r ≡ refused 13 0
    → (feasible_film e t m && same_list (archive_of e t m) a) ≡ false → CopyJudged e a t m r
copy_refused {r} is h =
    record {
      accepts = λ z. absurd (omega (arith, ap (λ (x : Answer). x.number) is));
      refuses = λ z. (is, h);
    }

module _ {e : Edition} (room : InRoom e) (a t m : List ℕ) where
  -- an archive with no more nodes than its edition takes is not longer than the longest
  pub copy_long : nodes_in e a ≤ e.most → longest_archive e < length a
      → (feasible_film e t m && same_list (archive_of e t m) a) ≡ false
  copy_long few long =
      never_true _
      (λ y.
      let same : archive_of e t m ≡ a =
      same_list_true (archive_of e t m) a (both_true (feasible_film e t m) (same_list (archive_of e t m) a) y).1 in
      omega (
        arith,
        ap length same,
        length_archive room.is t m,
        fits_longest e _ _ (page_count_le t m)
            (omega (arith, ap (nodes_in e) same, archive_nodes_lem room.is t m)),
      ))

  -- the answer and the output of the writer that film is held against, compared with the archive
  module _ (start out : List ℕ) (r : Answer) (w : outcome r out ≡ write_by (film_rules e) e t m start) where
    number_is : r.number ≡ (write_by (film_rules e) e t m start).answer.number
    number_is = ap (λ (x : Written). x.answer.number) w

    pub copy_stopped : (r.number ≡ 0 → ⊥) → nodes_in e a ≤ e.most → length start ≡ length a
        → (feasible_film e t m && same_list (archive_of e t m) a) ≡ false
    unfolding feasible_film
    copy_stopped h few long = writer_refused (film_rules e) e t m start room.is (λ z. h (number_is ∙ z)) a few long

    module _ (z : r.number ≡ 0) where
      done : WriteDone (film_rules e) e t m start
      done = writer_done (film_rules e) e t m start (sym number_is ∙ z)

      out_is : out ≡ archive_of e t m
      out_is = ap (λ (x : Written). x.left) (w ∙ done.wrote)

      pub copy_differs : same_list out a ≡ false → (feasible_film e t m && same_list (archive_of e t m) a) ≡ false
      copy_differs n =
          and_false_right (feasible_film e t m) (same_list (archive_of e t m) a)
          (ap (λ o. same_list o a) (sym out_is) ∙ n)

      pub copy_same : Bytes t → same_list out a ≡ true → CopyJudged e a t m r
      unfolding feasible_film
      copy_same b y =
          let same : archive_of e t m ≡ a = sym out_is ∙ same_list_true out a y in
          let back = rw same at (write_read room.is b done.feasible done.few) in
          record {
            accepts = λ h. (back.2, back.0, back.1, ap (λ (x : Written). x.answer) (w ∙ done.wrote));
            refuses = λ h. absurd (h z);
          }

-- ---- The film

-- It was accepted, and what was decoded is what the film tells, with its verdict; or it is no archive.
pub record Told (e : Edition) (a tree plan : List ℕ) (r : Answer) : Type 0 where
  pub accepts : r.number ≡ 0
      → (is_archive e a ≡ true) × (take (table_bytes (nodes_in e a)) tree ≡ table_in e a)
      × (take (nodes_in e a) plan ≡ marks_in e a) × (r ≡ answer_of (verdict_of (table_in e a) (marks_in e a)))
  pub refuses : (r.number ≡ 0 → ⊥) → (r ≡ refused 13 0) × (is_archive e a ≡ false)

module _ {e : Edition} (a : List ℕ) {tree plan : List ℕ} {r : Answer} where
  -- more nodes than its edition takes
  pub told_many : r ≡ refused 13 0 → e.most < nodes_in e a → Told e a tree plan r
  told_many is many =
      record {
        accepts = λ z. absurd (omega (arith, ap (λ (x : Answer). x.number) is));
        refuses = λ z. (is, too_many e a many);
      }

  -- the candidate that was decoded is what an archive tells
  pub told_copy : {bytes count : ℕ} → bytes ≡ table_bytes (nodes_in e a) → count ≡ nodes_in e a
      → CopyJudged e a (take bytes tree) (take count plan) r → Decoded e a tree plan → Told e a tree plan r
  unfolding is_archive
  told_copy {bytes} {count} bytes-is count_is j decoded =
      record {
        accepts =
            λ z.
            let k = j.accepts z in
            let both = decoded k.0 in (
              k.0,
              both.0,
              both.1,
              k.3 ∙ ap₂ (λ p q. answer_of (verdict_of p q)) (sym k.1) (sym k.2),
            );
        refuses =
            λ z.
            let k = j.refuses z in (
              k.0,
              never_true (is_archive e a)
                  (λ y.
                  let both = decoded y in
                  let table : take bytes tree ≡ table_in e a = ap (λ n. take n tree) bytes-is ∙ both.0 in
                  let marks : take count plan ≡ marks_in e a = ap (λ n. take n plan) count_is ∙ both.1 in
                  true≢false
                  (sym (both_true (leb (nodes_in e a) e.most) _ y).1
                  ∙ ap₂ (λ x w. feasible_film e x w && same_list (archive_of e x w) a) (sym table) (sym marks)
                  ∙ k.1)),
            );
      }
