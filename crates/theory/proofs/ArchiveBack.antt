-- An archive of one edition is of no other (editions_apart). Assumes nothing.
use Rattle.std.specs.Prelude.{ℕ, true, ◌≡◌, List}
use Rattle.std.proofs.Common.{arith}
use Rattle.std.proofs.Math.Path.{ap}
use Rattle.model.specs.Archive.{first_edition, second_edition, nodes_in, table_in, marks_in}
use Rattle.model.specs.Refusals.{is_archive}
use Rattle.theory.specs.ArchiveWords.{second_word}
use Rattle.theory.specs.ArchiveBack.{read_write}

pub editions_apart : (a : List ℕ) → is_archive first_edition a ≡ true → is_archive second_edition a ≡ true → ⊥
editions_apart a first second =
    omega (
      arith,
      (read_write first_edition a first).few,
      ap (nodes_in first_edition) (read_write second_edition a second).same,
      second_word (table_in second_edition a) (marks_in second_edition a),
    )
