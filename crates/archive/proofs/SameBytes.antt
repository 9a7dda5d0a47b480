-- What `==` says of two strings of bytes, and bytes copied up to a place. Defines SameUpto. Proves same_bytes, same_start,
-- copy_turn, same_all. Assumes nothing.
use Prim.Native.Nat.{ℕ, ◌+◌, ◌≤◌, ◌<◌}
use native.Mathlib.Omega.{arith}
use mathlib.Core.Path.{◌≡◌, refl, sym, ap}
use mathlib.Core.List.{List, [], ◌∷◌}
use lib.ListN.{length, get_or, set}
use lib.Seq.{ext_get_or}
use Rattle.std.specs.Prelude.{◌&&◌, eqb}
use lib.Pointwise.{pointwise}
use Rattle.model.specs.Basics.{same_list}
use Rattle.theory.specs.Lists.{get_d_set}

pub same_bytes : (a b : List ℕ) → same_list a b ≡ pointwise eqb a b
unfolding same_list
same_bytes [] [] = refl
same_bytes [] (y ∷ ys) = refl
same_bytes (x ∷ xs) [] = refl
same_bytes (x ∷ xs) (y ∷ ys) = ap (λ b. eqb x y && b) (same_bytes xs ys)

-- the bytes before i agree
abbrev pub SameUpto : List ℕ → List ℕ → ℕ → Type 0
SameUpto a b i = (k : ℕ) → k < i → get_or a k 0 ≡ get_or b k 0

pub same_start : (a b : List ℕ) → SameUpto a b 0
same_start a b k h = absurd (omega arith)

pub copy_turn : (from to : List ℕ) (i : ℕ) → SameUpto to from i → i < length to
    → SameUpto (set to i (get_or from i 0)) from (i + 1)
copy_turn from to i h fits k less =
    get_d_set to i (get_or from i 0) k (get_or from k 0) (λ same. (fits, ap (λ j. get_or from j 0) (sym same)))
    (λ other. h k (omega arith))

pub same_all : (a b : List ℕ) (i : ℕ) → SameUpto a b i → length a ≡ length b → length a ≤ i → a ≡ b
same_all a b i h long all = ext_get_or 0 a b long (λ k less. h k (omega arith))
