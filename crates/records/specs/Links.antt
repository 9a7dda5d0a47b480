-- The next number with a key, and the pass from n down to 1 that finds it. Defines next_with, Linked, Fit, Seen,
-- LinkedFrom. Assumes nothing.
use Rattle.std.specs.Prelude.{ℕ, ◌-◌, ◌≤◌, ◌<◌, ◌&&◌, ◌≡◌, refl, ◌⊎◌, List, length, get_or, set}
use Rattle.std.proofs.Common.{arith, ◌∙◌, inl, inr}
use Rattle.std.proofs.Math.Bool.{false}
use Rattle.std.proofs.Math.Path.{sym, ap}
use Rattle.std.proofs.Math.Dec.{eqb, ltb}
use borrow.Author.Tests.{eq-eqb, ne_eqb, lt-ltb, le-ltb}
use Rattle.model.specs.Basics.{at_place, first_to}
use Rattle.theory.specs.Bools.{and_true, and_false_left, and_false_right}
use Rattle.theory.specs.Ranges.{Upto, at_place_at, at_place_nowhere, first_to_none, first_to-first}
use Rattle.theory.specs.Ranges.{first_to_cong, order_cases}
use Rattle.theory.specs.Lists.{get_d_set}
use Rattle.theory.specs.Slots.{Row}
use Rattle.theory.specs.ArchiveBack.{found_small}
use Rattle.std.specs.declared.option.Option.{Option}
use Rattle.records.specs.Size.{film_slots}

-- the next of v + 1 to n that f gives the key k, or 0
unfoldable pub next_with : (ℕ → ℕ) → ℕ → ℕ → ℕ → ℕ
next_with f n v k = at_place (first_to n (λ u. ltb v u && eqb (f u) k)) (λ u. u) 0

-- the links of the numbers 1 to n: to the next with the same key
abbrev pub Linked : List ℕ → ℕ → List ℕ → Type 0
Linked keys n links = Row n (λ v. next_with (λ u. get_or keys u 0) n v (get_or keys v 0)) links

-- those of 1 to n are places of the arrays
abbrev pub Fit : ℕ → List ℕ → Type 0
Fit n l = Upto n (λ v. get_or l v 0 < film_slots)

module _ (f : ℕ → ℕ) (n : ℕ) where
  next_with_none : (k : ℕ) → next_with f n n k ≡ 0
  unfolding next_with
  next_with_none k =
      at_place_nowhere (first_to n (λ u. ltb n u && eqb (f u) k)) (λ u. u) 0
      (first_to_none n (λ u. ltb n u && eqb (f u) k)
      (λ u low high. and_false_left (ltb n u) (eqb (f u) k) (le-ltb n u high)))

  next_with_here : (v : ℕ) → 1 ≤ v → v ≤ n → next_with f n (v - 1) (f v) ≡ v
  unfolding next_with
  next_with_here v low high =
      at_place_at (first_to n (λ u. ltb (v - 1) u && eqb (f u) (f v))) v (λ u. u) 0
      (first_to-first n v (λ u. ltb (v - 1) u && eqb (f u) (f v))
      (record {
        low = low;
        high = high;
        passed = and_true (ltb (v - 1) v) (eqb (f v) (f v)) (lt-ltb (v - 1) v (omega arith)) (eq-eqb (f v) (f v) refl);
        before = λ u a b. and_false_left (ltb (v - 1) u) (eqb (f u) (f v)) (le-ltb (v - 1) u (omega arith));
      }))

  next_with_skip : (v k : ℕ) → 1 ≤ v → (f v ≡ k → ⊥) → next_with f n (v - 1) k ≡ next_with f n v k
  unfolding next_with
  next_with_skip v k low other =
      ap (λ (o : Option ℕ). at_place o (λ u. u) 0)
      (first_to_cong n (λ u. ltb (v - 1) u && eqb (f u) k) (λ u. ltb v u && eqb (f u) k)
      (λ u a b. same u (order_cases u v)))
    where
      same : (u : ℕ) → (u < v) ⊎ ((u ≡ v) ⊎ (v < u)) → (ltb (v - 1) u && eqb (f u) k) ≡ (ltb v u && eqb (f u) k)
      same u (inl h) = ap (λ b. b && eqb (f u) k) (le-ltb (v - 1) u (omega arith) ∙ sym (le-ltb v u (omega arith)))
      same u (inr (inl e)) =
          let none : eqb (f u) k ≡ false = ne_eqb (f u) k (λ q. other (ap f (sym e) ∙ q)) in
          and_false_right (ltb (v - 1) u) (eqb (f u) k) none ∙ sym (and_false_right (ltb v u) (eqb (f u) k) none)
      same u (inr (inr h)) = ap (λ b. b && eqb (f u) k) (lt-ltb (v - 1) u (omega arith) ∙ sym (lt-ltb v u h))

  pub next_with_le : (v k : ℕ) → next_with f n v k ≤ n
  unfolding next_with
  next_with_le v k = found_small n (λ u. ltb v u && eqb (f u) k)

-- keys that agree
pub next_with_cong : (f g : ℕ → ℕ) (n v k : ℕ) → Upto n (λ u. f u ≡ g u) → next_with f n v k ≡ next_with g n v k
unfolding next_with
next_with_cong f g n v k h =
    ap (λ (o : Option ℕ). at_place o (λ u. u) 0)
    (first_to_cong n (λ u. ltb v u && eqb (f u) k) (λ u. ltb v u && eqb (g u) k)
    (λ u a b. ap (λ x. ltb v u && eqb x k) (h u a b)))

-- ---- The pass: what was seen of each key after v, and the links of the numbers after v

abbrev pub Seen : (ℕ → ℕ) → ℕ → ℕ → List ℕ → Type 0
Seen f n v l = (k : ℕ) → k < film_slots → get_or l k 0 ≡ next_with f n v k

abbrev pub LinkedFrom : (ℕ → ℕ) → ℕ → ℕ → List ℕ → Type 0
LinkedFrom f n v l = (u : ℕ) → v < u → u ≤ n → get_or l u 0 ≡ next_with f n u (f u)

module _ (f : ℕ → ℕ) (n : ℕ) where
  pub seen_start : (l : List ℕ) → ((k : ℕ) → k < film_slots → get_or l k 0 ≡ 0) → Seen f n n l
  seen_start l h k fits = h k fits ∙ sym (next_with_none f n k)

  pub linked_start : (l : List ℕ) → LinkedFrom f n n l
  linked_start l u low high = absurd (omega arith)

  pub seen_turn : (l : List ℕ) (v : ℕ) → Seen f n v l → length l ≡ film_slots → 1 ≤ v → v ≤ n → f v < film_slots
      → Seen f n (v - 1) (set l (f v) v)
  seen_turn l v h long low high fits k within =
      get_d_set l (f v) v k (next_with f n (v - 1) k)
      (λ same. (omega arith, sym (ap (next_with f n (v - 1)) same ∙ next_with_here f n v low high)))
      (λ other. h k within ∙ sym (next_with_skip f n v k low (λ q. other (sym q))))

  pub linked_turn : (s l : List ℕ) (v : ℕ) → Seen f n v s → LinkedFrom f n v l → v < length l → f v < film_slots → 1 ≤ v
      → LinkedFrom f n (v - 1) (set l v (get_or s (f v) 0))
  linked_turn s l v seen h fits key low u less high =
      get_d_set l v (get_or s (f v) 0) u (next_with f n u (f u))
      (λ same. (fits, seen (f v) key ∙ ap (λ j. next_with f n j (f j)) (sym same)))
      (λ other. h u (omega arith) high)
