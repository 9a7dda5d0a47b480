-- Arrays of zeros, the siblings before, and a scratch with the column of no child are ready for the nodes. Proves
-- scratch_fits, open_fits and starts_ready. Assumes nothing.
use Prim.Native.Nat.{ℕ, ◌+◌, ◌*◌, ◌≤◌}
use mathlib.Core.Path.{◌≡◌}
use mathlib.Core.List.{List, []}
use native.Mathlib.Omega.{arith}
use native.Mathlib.Nat.{mul-le-mul}
use lib.ListN.{length, replicate}
use Rattle.model.specs.Table.{slots, node_count, limit_of}
use Rattle.model.specs.Refusals.{scratch_words}
use Rattle.theory.specs.TableFacts.{AcceptedFacts}
use Rattle.theory.specs.Lists.{zeros}
use Rattle.theory.specs.SiblingsBack.{SiblingsLinked}
use Rattle.columns.specs.Cells.{cell_at}
use Rattle.columns.specs.CellsArrays.{Swept}
use Rattle.columns.specs.CellsRun.{block_at}
use Rattle.columns.specs.CellsNode.{ColumnsReady}
use Rattle.columns.specs.declared.nodes.Nodes.{Nodes}

-- a block for each node, and one for none
pub scratch_fits : (N K : ℕ) → 1 ≤ N → block_at K (N + 1) ≤ scratch_words N K
scratch_fits N K low =
    let m : (N + 1) * (2 * (K + 1)) ≤ 2 * N * (2 * (K + 3)) =
    mul-le-mul {n₁ = N + 1} {m₁ = 2 * (K + 1)} {n₂ = 2 * N} {m₂ = 2 * (K + 3)} (omega arith) (omega arith) in
    omega (arith, m)

pub open_fits : (N K : ℕ) → 1 ≤ N → 2 * (K + 1) ≤ scratch_words N K
open_fits N K low =
    let m : 1 * (2 * (K + 1)) ≤ (N + 1) * (2 * (K + 1)) =
    mul-le-mul {n₁ = 1} {m₁ = 2 * (K + 1)} {n₂ = N + 1} {m₂ = 2 * (K + 1)} (omega arith) (omega arith) in
    omega (arith, m, scratch_fits N K low)

-- no node is planned yet
abbrev fresh : List ℕ → Nodes
fresh prevs =
    record { prevs = prevs; rests = replicate slots 0; gains = replicate slots 0; lasts = replicate slots 0 }

pub starts_ready : {t prevs xs ys : List ℕ} (K : ℕ) → AcceptedFacts t
    → scratch_words (node_count t) (limit_of t) ≤ length xs → SiblingsLinked t prevs → K ≡ limit_of t
    → Swept K 0 0 (λ s. cell_at K [] s) xs ys → ColumnsReady t (fresh prevs) ys
starts_ready {t} K a words l limit w =
    record {
      accepted = a;
      good = λ u. record { light = omega (arith, zeros slots u); fits = omega (arith, zeros slots u) };
      before = l.before;
      earlier = l.earlier;
      none = l.none;
      room = omega (arith, scratch_fits (node_count t) (limit_of t) a.sound.count_low, words, w.long);
      root = λ s h.
          let z : 0 * (2 * (K + 1)) ≡ 0 = omega arith in
          rw (← limit, z) (w.cells s (omega arith) (omega arith));
    }
