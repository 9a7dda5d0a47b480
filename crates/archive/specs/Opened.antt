-- What is opened of film: the table and the marks that an archive tells, and its verdict.
-- Defines Opened. Proves opened. Assumes nothing.
use Rattle.std.specs.Prelude.{ℕ, ◌≤◌, true, ◌≡◌, List, length, take}
use Rattle.std.proofs.Common.{◌∙◌, length-take-le}
use Rattle.model.specs.Table.{table_bytes}
use Rattle.model.specs.Plan.{verdict_of}
use Rattle.model.specs.Archive.{nodes_in, table_in, marks_in}
use Rattle.model.specs.Refusals.{Answer, answer_of, is_archive}
use Rattle.model.specs.declared.Edition.{Edition}
use Rattle.theory.specs.ArchiveBack.{read_write}
use Rattle.archive.specs.Room.{Room, room_kept}
use Rattle.archive.specs.Answers.{Told}
use Rattle.archive.specs.Parts.{told_fronts}

pub record Opened (e : Edition) (a table marks : List ℕ) (r : Answer) : Type 0 where
  pub film : is_archive e a ≡ true
  pub few : nodes_in e a ≤ e.most
  pub table_told : table ≡ table_in e a
  pub marks_told : marks ≡ marks_in e a
  pub table_long : length table ≡ table_bytes (nodes_in e a)
  pub marks_long : length marks ≡ nodes_in e a
  pub verdict : r ≡ answer_of (verdict_of (table_in e a) (marks_in e a))

-- from the start of what was decoded into
pub opened : {e : Edition} {a tree plan : List ℕ} {n k copy bytes count : ℕ} {r : Answer} → Room e n k copy
    → length tree ≡ n → length plan ≡ k → Told e a tree plan r → r.number ≡ 0 → bytes ≡ table_bytes count
    → count ≡ nodes_in e a → Opened e a (take bytes tree) (take count plan) r
opened {e} {a} {tree} {plan} {bytes} {count} room tree_long plan_long told zero table_is count_is =
    let f = told_fronts told zero table_is count_is (room_kept room tree_long plan_long) in
    record {
      film = f.film;
      few = (read_write e a f.film).few;
      table_told = f.tree_told;
      marks_told = f.plan_told;
      table_long = length-take-le bytes tree f.tree_fits ∙ f.bytes_are;
      marks_long = length-take-le count plan f.plan_fits ∙ f.count_is;
      verdict = (told.accepts zero).3;
    }
