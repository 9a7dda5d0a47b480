-- What is decoded of film. Defines Decoded. Proves too_many. Assumes nothing.
use Rattle.std.specs.Prelude.{ℕ, ◌<◌, true, false, ◌≡◌, List, take}
use Rattle.std.proofs.Common.{arith}
use Rattle.model.specs.Table.{table_bytes}
use Rattle.model.specs.Archive.{nodes_in, table_in, marks_in}
use Rattle.model.specs.Refusals.{is_archive}
use Rattle.model.specs.declared.Edition.{Edition}
use Rattle.theory.specs.Bools.{never_true}
use Rattle.theory.specs.ArchiveBack.{read_write}

-- what stands at the start of tree and plan is what the film tells, if it is an archive
abbrev pub Decoded : Edition → List ℕ → List ℕ → List ℕ → Type 0
Decoded e a tree plan =
    is_archive e a ≡ true
    → (take (table_bytes (nodes_in e a)) tree ≡ table_in e a) × (take (nodes_in e a) plan ≡ marks_in e a)

-- more nodes than its edition takes: no archive
pub too_many : (e : Edition) (a : List ℕ) → e.most < nodes_in e a → is_archive e a ≡ false
too_many e a many = never_true (is_archive e a) (λ y. omega (arith, (read_write e a y).few))
