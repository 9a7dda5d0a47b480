-- Scans of siblings by their links: the sum of their remainders, and the heaviest of them.
-- Defines HeaviestTo (what a scan for the heaviest knows at the next sibling). Assumes nothing.
use Prim.Native.Nat.{ℕ, ◌+◌, ◌≤◌, ◌<◌, max}
use native.Mathlib.Omega.{arith}
use mathlib.Core.Path.{◌≡◌, refl, ap}
use mathlib.Core.Logic.{◌⊎◌, inl, inr}
use mathlib.Core.List.{List}
use Rattle.model.specs.Table.{node_count, next_at}
use Rattle.theory.specs.TableFacts.{SoundFacts}
use Rattle.theory.specs.PlanShape.{size}
use Rattle.theory.specs.TableLinks.{next_le}
use Rattle.theory.specs.TableChain.{chain_at, chain_none, node_at, next_smaller}
use Rattle.greedy.specs.Kept.{kept}
use Rattle.greedy.specs.SingleMembers.{rest_at, largest_at, EarliestAt}
use Rattle.greedy.specs.SingleCuts.{Heaviest}

-- best is the heaviest of the siblings from v up to u, the earliest among equals
pub record HeaviestTo (t s : List ℕ) (v best u : ℕ) : Type 0 where
  pub low : 1 ≤ best
  pub high : best ≤ node_count t
  pub here : u ≤ node_count t
  pub found : EarliestAt t s (kept s best) v (chain_at t v) best
  pub past : (g h : ℕ) → kept s best < g → EarliestAt t s g u (chain_at t u) h → EarliestAt t s g v (chain_at t v) h
  pub most : largest_at t s v (chain_at t v) ≡ max (kept s best) (largest_at t s u (chain_at t u))

module _ {t : List ℕ} (sound : SoundFacts t) (s : List ℕ) where
  -- one sibling, and those after it
  rest_node : (u : ℕ) → 1 ≤ u → u ≤ node_count t
      → rest_at t s u (chain_at t u) ≡ kept s u + rest_at t s (next_at t u) (chain_at t (next_at t u))
  unfolding rest_at
  rest_node u low high = rw (node_at sound u low high).shape

  largest_node : (u : ℕ) → 1 ≤ u → u ≤ node_count t
      → largest_at t s u (chain_at t u) ≡ max (kept s u) (largest_at t s (next_at t u) (chain_at t (next_at t u)))
  unfolding largest_at
  largest_node u low high = rw (node_at sound u low high).shape

  earliest_here : (u : ℕ) → 1 ≤ u → u ≤ node_count t → EarliestAt t s (kept s u) u (chain_at t u) u
  unfolding EarliestAt
  earliest_here u low high = rw (node_at sound u low high).shape (inl (refl, refl))

  earliest_later : (g u h : ℕ) → 1 ≤ u → u ≤ node_count t → (kept s u ≡ g → ⊥)
      → EarliestAt t s g (next_at t u) (chain_at t (next_at t u)) h → EarliestAt t s g u (chain_at t u) h
  unfolding EarliestAt
  earliest_later g u h low high other e = rw (node_at sound u low high).shape (inr (other, e))

  pub next_less : (u n : ℕ) → 1 ≤ u → u ≤ node_count t → n ≡ next_at t u → size (chain_at t n) < size (chain_at t u)
  next_less u n low high e = rw e (next_smaller (node_at sound u low high))

  pub next_high : (u n : ℕ) → 1 ≤ u → u ≤ node_count t → n ≡ next_at t u → n ≤ node_count t
  next_high u n low high e = omega (arith, next_le sound u low high)

  -- ---- The sum

  pub sum_more : (u n sum all k : ℕ) → 1 ≤ u → u ≤ node_count t → n ≡ next_at t u → k ≡ kept s u
      → sum + rest_at t s u (chain_at t u) ≡ all → sum + k + rest_at t s n (chain_at t n) ≡ all
  sum_more u n sum all k low high e q i =
      let r : rest_at t s n (chain_at t n) ≡ rest_at t s (next_at t u) (chain_at t (next_at t u)) =
      ap (λ (x : ℕ). rest_at t s x (chain_at t x)) e in
      omega (arith, rest_node u low high)

  pub sum_fits : (u sum all k : ℕ) → 1 ≤ u → u ≤ node_count t → k ≡ kept s u → sum + rest_at t s u (chain_at t u) ≡ all
      → sum + k ≤ all
  sum_fits u sum all k low high q i = omega (arith, rest_node u low high)

  pub sum_end : (u sum all : ℕ) → u ≡ 0 → sum + rest_at t s u (chain_at t u) ≡ all → sum ≡ all
  unfolding rest_at
  sum_end u sum all z i =
      let r : rest_at t s u (chain_at t u) ≡ 0 = rw (z, chain_none t) in
      omega arith

  -- ---- The heaviest

  pub scan_start : (v n : ℕ) → 1 ≤ v → v ≤ node_count t → n ≡ next_at t v → HeaviestTo t s v v n
  scan_start v n low high e =
      record {
        low = low;
        high = high;
        here = next_high v n low high e;
        found = earliest_here v low high;
        past = λ g h l x. earliest_later g v h low high (λ q. omega arith) (rw e at x);
        most = rw e (largest_node v low high);
      }

  module _ (v best u n : ℕ) (x : HeaviestTo t s v best u) (low : 1 ≤ u) (e : n ≡ next_at t u) where
    same : largest_at t s n (chain_at t n) ≡ largest_at t s (next_at t u) (chain_at t (next_at t u))
    same = ap (λ (k : ℕ). largest_at t s k (chain_at t k)) e

    scan_past : kept s u ≤ kept s best → HeaviestTo t s v best n
    scan_past l =
        record {
          low = x.low;
          high = x.high;
          here = next_high u n low x.here e;
          found = x.found;
          past = λ g h p y. x.past g h p (earliest_later g u h low x.here (λ q. omega arith) (rw e at y));
          most = omega (arith, x.most, same, largest_node u low x.here);
        }

    scan_better : kept s best < kept s u → HeaviestTo t s v u n
    scan_better l =
        record {
          low = low;
          high = x.here;
          here = next_high u n low x.here e;
          found = x.past (kept s u) u l (earliest_here u low x.here);
          past =
              λ g h p y. x.past g h (omega arith) (earliest_later g u h low x.here (λ q. omega arith) (rw e at y));
          most = omega (arith, x.most, same, largest_node u low x.here);
        }

    pub scan_turn : (next-best a b : ℕ) → a ≡ kept s best → b ≡ kept s u
        → ((a < b) × (next-best ≡ u)) ⊎ ((b ≤ a) × (next-best ≡ best)) → HeaviestTo t s v next-best n
    scan_turn next-best a b p q (inl w) = rw w.1 (scan_better (omega (arith, w.0)))
    scan_turn next-best a b p q (inr w) = rw w.1 (scan_past (omega (arith, w.0)))

  pub scan_end : (v best u : ℕ) → HeaviestTo t s v best u → u ≡ 0 → Heaviest t s v best
  unfolding largest_at
  scan_end v best u x z =
      let r : largest_at t s u (chain_at t u) ≡ 0 = rw (z, chain_none t) in
      let all : largest_at t s v (chain_at t v) ≡ kept s best = omega (arith, x.most) in
      record { low = x.low; high = x.high; earliest = rw all x.found }
