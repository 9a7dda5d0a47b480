-- The two sides of a node of the two-way tree: which of them are cut, by tests of their weights.
-- Defines left_first, left_cut, right_cut. Proves sides_left, sides_right: these are the sides that the pair planner
-- takes. Assumes nothing.
use Rattle.std.specs.Prelude.{ℕ, ◌+◌, ◌-◌, ◌≤◌, ◌<◌, ◌≡◌, Bool, not, ◌&&◌, ◌||◌, List, [], ◌∷◌, ltb, leb}
use native.Mathlib.Omega.{arith}
use Rattle.std.proofs.Math.Path.{refl, ap}
use Rattle.std.proofs.Common.{◌∙◌, inl}
use Rattle.std.proofs.Math.Bool.{true, false}
use borrow.Author.Tests.{leb-true, leb-false, lt-ltb, le-ltb, eq-eqb, ne_eqb}
use Rattle.model.specs.Basics.{pick}
use Rattle.model.specs.Steps.{Member, rest_sum, largest_gain, take_earliest, reduce, whole, cut_down, sides, taken_at}
use Rattle.theory.specs.Reduce.{off_by}
use Rattle.theory.specs.ReduceCount.{reduce_stop, reduce_turn}

-- the heavier side is cut first, and of equal sides the left
abbrev pub left_first : ℕ → ℕ → Bool
left_first left right = leb right left

-- a side is cut where the node and both sides exceed the limit, and it is the first to go, or it is too heavy by itself
unfoldable pub left_cut : ℕ → ℕ → ℕ → ℕ → Bool
left_cut K w left right = ltb K (w + left + right) && (left_first left right || ltb K (w + left))

unfoldable pub right_cut : ℕ → ℕ → ℕ → ℕ → Bool
right_cut K w left right = ltb K (w + left + right) && (not (left_first left right) || ltb K (w + right))

-- ---- Two members: no turn, or one turn

module _ (room : ℕ) (x y : Member) where
  two_stop : x.rest + y.rest ≤ room → reduce room (x ∷ y ∷ []) ≡ x ∷ y ∷ []
  unfolding rest_sum
  two_stop h = reduce_stop room (x ∷ y ∷ []) (inl (omega arith))

  two_left : room < x.rest + y.rest → 0 < x.gain → y.gain ≤ x.gain
      → reduce room (x ∷ y ∷ []) ≡ reduce room (off_by x.gain x ∷ y ∷ [])
  unfolding rest_sum largest_gain take_earliest pick
  two_left over some most =
      let largest : largest_gain (x ∷ y ∷ []) ≡ x.gain = omega arith in
      reduce_turn room (x ∷ y ∷ []) (record { over = omega arith; some = omega arith })
      ∙ ap (reduce room) (ap (λ (g : ℕ). take_earliest g (x ∷ y ∷ [])) largest ∙ rw (eq-eqb x.gain x.gain refl))

  two_right : room < x.rest + y.rest → x.gain < y.gain
      → reduce room (x ∷ y ∷ []) ≡ reduce room (x ∷ off_by y.gain y ∷ [])
  unfolding rest_sum largest_gain take_earliest pick
  two_right over most =
      let largest : largest_gain (x ∷ y ∷ []) ≡ y.gain = omega arith in
      reduce_turn room (x ∷ y ∷ []) (record { over = omega arith; some = omega arith })
      ∙ ap (reduce room)
      (ap (λ (g : ℕ). take_earliest g (x ∷ y ∷ [])) largest
      ∙ rw (ne_eqb x.gain y.gain (λ q. omega arith), eq-eqb y.gain y.gain refl))

-- ---- The sides

record Taken (K w left right : ℕ) (ms : List Member) : Type 0 where
  on_left : taken_at 0 ms ≡ left_cut K w left right
  on_right : taken_at 1 ms ≡ right_cut K w left right

module _ (K w left right : ℕ) (light : w ≤ K) where
  abbrev room : ℕ
  room = K - w

  abbrev side_l : Member
  side_l = record { rest = left; gain = left; taken = false }

  abbrev side_r : Member
  side_r = record { rest = right; gain = right; taken = false }

  sides_is : sides K w left right ≡ reduce room (side_l ∷ side_r ∷ [])
  unfolding sides cut_down whole
  sides_is = refl

  abbrev cut : ℕ → Member
  cut g = record { rest = g - g; gain = 0; taken = true }

  both_cut : reduce room (cut left ∷ cut right ∷ []) ≡ cut left ∷ cut right ∷ []
  both_cut = two_stop room (cut left) (cut right) (omega arith)

  taken_is : (a b : Member) (ms : List Member) → ms ≡ a ∷ b ∷ [] → a.taken ≡ left_cut K w left right
      → b.taken ≡ right_cut K w left right → Taken K w left right ms
  unfolding taken_at
  taken_is a b ms e p q = record { on_left = ap (taken_at 0) e ∙ p; on_right = ap (taken_at 1) e ∙ q }

  sides_taken : (o f l r : Bool) → leb (left + right) room ≡ o → leb right left ≡ f → leb left room ≡ l
      → leb right room ≡ r → Taken K w left right (sides K w left right)
  unfolding left_cut right_cut
  sides_taken true f l r eo ef el er =
      let h : left + right ≤ room = leb-true (left + right) room eo in
      taken_is side_l side_r (sides K w left right) (sides_is ∙ two_stop room side_l side_r h)
      (rw (le-ltb K (w + left + right) (omega arith))) (rw (le-ltb K (w + left + right) (omega arith)))
  sides_taken false true l true eo ef el er =
      let h : room < left + right = leb-false (left + right) room eo in
      let first : right ≤ left = leb-true right left ef in
      let small : right ≤ room = leb-true right room er in
      taken_is (cut left) side_r (sides K w left right)
      (sides_is ∙ two_left room side_l side_r h (omega arith) first ∙ two_stop room (cut left) side_r (omega arith))
      (rw (lt-ltb K (w + left + right) (omega arith), ef))
      (rw (lt-ltb K (w + left + right) (omega arith), ef, le-ltb K (w + right) (omega arith)))
  sides_taken false true l false eo ef el er =
      let h : room < left + right = leb-false (left + right) room eo in
      let first : right ≤ left = leb-true right left ef in
      let big : room < right = leb-false right room er in
      taken_is (cut left) (cut right) (sides K w left right)
      (sides_is ∙ two_left room side_l side_r h (omega arith) first
      ∙ two_right room (cut left) side_r (omega arith) (omega arith) ∙ both_cut)
      (rw (lt-ltb K (w + left + right) (omega arith), ef))
      (rw (lt-ltb K (w + left + right) (omega arith), ef, lt-ltb K (w + right) (omega arith)))
  sides_taken false false true r eo ef el er =
      let h : room < left + right = leb-false (left + right) room eo in
      let first : left < right = leb-false right left ef in
      let small : left ≤ room = leb-true left room el in
      taken_is side_l (cut right) (sides K w left right)
      (sides_is ∙ two_right room side_l side_r h first ∙ two_stop room side_l (cut right) (omega arith))
      (rw (lt-ltb K (w + left + right) (omega arith), ef, le-ltb K (w + left) (omega arith)))
      (rw (lt-ltb K (w + left + right) (omega arith), ef))
  sides_taken false false false r eo ef el er =
      let h : room < left + right = leb-false (left + right) room eo in
      let first : left < right = leb-false right left ef in
      let big : room < left = leb-false left room el in
      taken_is (cut left) (cut right) (sides K w left right)
      (sides_is ∙ two_right room side_l side_r h first
      ∙ two_left room side_l (cut right) (omega arith) (omega arith) (omega arith) ∙ both_cut)
      (rw (lt-ltb K (w + left + right) (omega arith), ef, lt-ltb K (w + left) (omega arith)))
      (rw (lt-ltb K (w + left + right) (omega arith), ef))

  all_taken : Taken K w left right (sides K w left right)
  all_taken =
      sides_taken (leb (left + right) room) (leb right left) (leb left room) (leb right room) refl refl refl refl

  pub sides_left : taken_at 0 (sides K w left right) ≡ left_cut K w left right
  sides_left = all_taken.on_left

  pub sides_right : taken_at 1 (sides K w left right) ≡ right_cut K w left right
  sides_right = all_taken.on_right
