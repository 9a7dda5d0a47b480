-- How many bytes are lent to decode film in: room for the longest table, plan and archive of the edition.
-- Defines Room. Proves room_of, room_kept. Assumes nothing.
use Rattle.std.specs.Prelude.{ℕ, ◌≤◌, ◌≡◌}
use Rattle.std.proofs.Common.{arith}
use Rattle.model.specs.declared.Edition.{Edition}
use Rattle.records.specs.Size.{InRoom, longest_archive, longest_table}

pub record Room (e : Edition) (tree plan copy : ℕ) : Type 0 where
  pub edition : InRoom e
  pub for_tree : longest_table e ≤ tree
  pub for_plan : e.most ≤ plan
  pub for_copy : longest_archive e ≤ copy

-- just so much
pub room_of : {e : Edition} → InRoom e → Room e (longest_table e) e.most (longest_archive e)
room_of room = record { edition = room; for_tree = omega arith; for_plan = omega arith; for_copy = omega arith }

pub room_kept : {e : Edition} {tree plan copy tree' plan' : ℕ} → Room e tree plan copy → tree' ≡ tree → plan' ≡ plan
    → Room e tree' plan' copy
room_kept r tree plan =
    record {
      edition = r.edition;
      for_tree = omega (arith, r.for_tree);
      for_plan = omega (arith, r.for_plan);
      for_copy = r.for_copy;
    }
