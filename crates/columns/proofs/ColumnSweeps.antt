-- One turn of a sweep over the cells of a child. Defines ByTest, ByLower. Proves stay_turn, relax_word and relax_turn.
-- Assumes nothing.
use Prim.Native.Nat.{ℕ, ◌+◌, ◌*◌, ◌≤◌, ◌<◌}
use mathlib.Core.Path.{◌≡◌, refl, ◌∙◌, ap, ap₂}
use mathlib.Core.List.{List}
use mathlib.Core.Logic.{◌⊎◌, inl, inr}
use native.Mathlib.Omega.{arith}
use lib.ListN.{length, get_or, set}
use lib.Dec.{leb}
use borrow.Author.Tests.{lt-ltb, le-ltb, le-leb, lt-leb}
use Rattle.model.specs.Basics.{pick}
use Rattle.columns.specs.Cells.{Cell, no_word, lower, stay_cell}
use Rattle.columns.specs.CellsArrays.{cell_in, Sweeping, sweep_turn}

-- x is p where the test holds, and q where not
abbrev pub ByTest : Type 0 → Type 0 → ℕ → ℕ → ℕ → Type 0
ByTest holds fails x p q = (holds × (x ≡ p)) ⊎ (fails × (x ≡ q))

-- a candidate of word a against the cell c
abbrev pub ByLower : ℕ → ℕ → Cell → ℕ → ℕ → Type 0
ByLower a len c word run =
    ((a < c.word) × (word ≡ a) × (run ≡ len)) ⊎ ((c.word ≤ a) × (word ≡ c.word) × (run ≡ c.run))

by_lower : (a len : ℕ) (c : Cell) (word run : ℕ) → ByLower a len c word run
    → record { word = word; run = run } ≡ lower a len c
unfolding lower pick
by_lower a len c word run (inl t) = rw (lt-ltb a c.word t.0, t.1, t.2) refl
by_lower a len c word run (inr t) = rw (le-ltb a c.word t.0, t.1, t.2) refl

module _ (K start here before s : ℕ) (xs ys : List ℕ) (apart : before + 2 * (K + 1) ≤ here)
    (room : here + 2 * (K + 1) ≤ length xs) (high : s ≤ K) where
  pub stay_turn : (rest word : ℕ) → Sweeping K start here s
      (λ u. stay_cell K u rest (get_or xs (before + (u + rest)) 0)) xs ys
      → ByTest (s + rest ≤ K) (K < s + rest) word (get_or ys (before + (s + rest)) 0) no_word
      → Sweeping K start here (s + 1) (λ u. stay_cell K u rest (get_or xs (before + (u + rest)) 0)) xs
      (set (set ys (here + s) word) (here + (K + 1) + s) 0)
  unfolding stay_cell pick
  stay_turn rest word w came =
      sweep_turn K start here s _ xs ys word 0 w high room (ap (λ x. record { word = x; run = 0 }) (go came))
    where
      go : ByTest (s + rest ≤ K) (K < s + rest) word (get_or ys (before + (s + rest)) 0) no_word
          → word ≡ pick (leb (s + rest) K) (get_or xs (before + (s + rest)) 0) no_word
      go (inl p) =
          let l : s + rest ≤ K = p.0 in
          rw (le-leb (s + rest) K l) (p.1 ∙ w.below (before + (s + rest)) (omega arith))
      go (inr p) = rw (lt-leb (s + rest) K p.0) p.1

  module _ (added len : ℕ)
      (w : Sweeping K start here s (λ u. lower (get_or xs (before + u) 0 + added) len (cell_in xs K here u)) xs ys) where
    pub relax_word : get_or ys (before + s) 0 ≡ get_or xs (before + s) 0
    relax_word = w.below (before + s) (omega arith)

    pub relax_turn : (word run : ℕ)
        → ByLower (get_or ys (before + s) 0 + added) len (cell_in ys K here s) word run
        → Sweeping K start here (s + 1) (λ u. lower (get_or xs (before + u) 0 + added) len (cell_in xs K here u)) xs
        (set (set ys (here + s) word) (here + (K + 1) + s) run)
    relax_turn word run p =
        sweep_turn K start here s _ xs ys word run w high room
        (by_lower (get_or ys (before + s) 0 + added) len (cell_in ys K here s) word run p
        ∙ ap₂ (λ a c. lower (a + added) len c) relax_word (w.left s (omega arith) high))
