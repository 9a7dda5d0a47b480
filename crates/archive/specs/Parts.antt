-- The parts of the reader's own arrays that are lent, and what those tell that were decoded of film.
-- Defines Fronts. Proves known_part, part_long, part_back, told_fronts. Assumes nothing.
use Rattle.std.specs.Prelude.{ℕ, ◌≤◌, true, ◌≡◌, List, ◌++◌, length, take}
use Rattle.std.proofs.Common.{arith, sym, ◌∙◌, ap, length-take-le, take_at}
use Rattle.model.specs.Basics.{same_list}
use Rattle.model.specs.Table.{table_bytes}
use Rattle.model.specs.Archive.{nodes_in, table_in, marks_in}
use Rattle.model.specs.Refusals.{is_archive}
use Rattle.model.specs.Refusals.{Answer}
use Rattle.model.specs.declared.Edition.{Edition}
use Rattle.theory.specs.ArchiveBack.{read_write}
use Rattle.archive.specs.Room.{Room}
use Rattle.archive.specs.Answers.{Told}

-- a part that is lent
pub known_part : (l : List ℕ) (size : ℕ) → size ≤ length l → size ≡ length (take size l)
known_part l size h = sym (length-take-le size l h)

-- a part that came back
module _ (e rest : List ℕ) (size : ℕ) (long : length e ≡ size) where
  pub part_long : size ≡ length (take size (e ++ rest))
  part_long = sym (ap length (take_at e rest size long) ∙ long)

  pub part_back : (a : List ℕ) → same_list (take size (e ++ rest)) a ≡ same_list e a
  part_back a = ap (λ l. same_list l a) (take_at e rest size long)

-- an archive, and what was decoded of it: so many bytes of tree and so many of plan are what it tells
pub record Fronts (e : Edition) (a tree plan : List ℕ) (bytes count : ℕ) : Type 0 where
  pub film : is_archive e a ≡ true
  pub bytes_are : bytes ≡ table_bytes (nodes_in e a)
  pub count_is : count ≡ nodes_in e a
  pub tree_fits : bytes ≤ length tree
  pub plan_fits : count ≤ length plan
  pub tree_told : take bytes tree ≡ table_in e a
  pub plan_told : take count plan ≡ marks_in e a

pub told_fronts : {e : Edition} {a tree plan : List ℕ} {r : Answer} {bytes count copy : ℕ} → Told e a tree plan r
    → r.number ≡ 0 → bytes ≡ table_bytes count → count ≡ nodes_in e a → Room e (length tree) (length plan) copy
    → Fronts e a tree plan bytes count
told_fronts {e} {a} {tree} {plan} told z table_is count_is room =
    let told = told.accepts z in
    let few = (read_write e a told.0).few in
    let bytes_are = table_is ∙ ap table_bytes count_is in
    record {
      film = told.0;
      bytes_are = bytes_are;
      count_is = count_is;
      tree_fits = omega (arith, bytes_are, room.for_tree);
      plan_fits = omega (arith, room.for_plan);
      tree_told = ap (λ n. take n tree) bytes_are ∙ told.1;
      plan_told = ap (λ n. take n plan) count_is ∙ told.2;
    }
