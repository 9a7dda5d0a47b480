-- What a list keeps of each node, one element a node, and what stores change.
-- Defines kept, Outside. Proves what a store at a node leaves. Assumes nothing.
use Rattle.std.specs.Prelude.{ℕ, zero, suc, ◌-◌, ◌≤◌, ◌<◌, ◌≡◌, refl, List, length, get_or, set}
use Rattle.std.proofs.Common.{arith, sym, ◌∙◌, get_or-set_same, get_or-set_other}

-- the element of node v; 0 for no node
unfoldable pub kept : List ℕ → ℕ → ℕ
kept s zero = 0
kept s (suc i) = get_or s i 0

pub kept_none : (s : List ℕ) → kept s 0 ≡ 0
unfolding kept
kept_none s = refl

pub kept_suc : (s : List ℕ) (i : ℕ) → kept s (suc i) ≡ get_or s i 0
unfolding kept
kept_suc s i = refl

pub kept_some : (s : List ℕ) (v : ℕ) → 1 ≤ v → get_or s (v - 1) 0 ≡ kept s v
unfolding kept
kept_some s zero h = absurd (omega arith)
kept_some s (suc i) h = let e : suc i - 1 ≡ i = omega arith in rw e

-- a store at node v
pub kept_same : (s : List ℕ) (v x : ℕ) → 1 ≤ v → v ≤ length s → kept (set s (v - 1) x) v ≡ x
kept_same s v x low high = sym (kept_some (set s (v - 1) x) v low) ∙ get_or-set_same s (v - 1) x 0 (omega arith)

-- at node u, where that is v
pub kept_here : (s : List ℕ) (u v x : ℕ) → u ≡ v → 1 ≤ v → v ≤ length s → kept (set s (u - 1) x) v ≡ x
kept_here s u v x e low high = rw e (kept_same s v x low high)

pub kept_other : (s : List ℕ) (v u x : ℕ) → 1 ≤ v → (u ≡ v → ⊥) → kept (set s (v - 1) x) u ≡ kept s u
unfolding kept
kept_other s v zero x low ne = refl
kept_other s v (suc i) x low ne = get_or-set_other s (v - 1) i x 0 (λ e. ne (omega arith))

-- nodes m + 1 to e may have changed, and no others
pub record Outside (m e : ℕ) (s s' : List ℕ) : Type 0 where
  pub keeps : (u : ℕ) → (m < u → u ≤ e → ⊥) → kept s' u ≡ kept s u

pub outside_none : (m e : ℕ) (s : List ℕ) → Outside m e s s
outside_none m e s = record { keeps = λ u out. refl }

pub outside_then : {m e : ℕ} {s s₁ s₂ : List ℕ} → Outside m e s s₁ → Outside m e s₁ s₂ → Outside m e s s₂
outside_then a b = record { keeps = λ u out. b.keeps u out ∙ a.keeps u out }

pub outside_more : {m e : ℕ} {s s' : List ℕ} (m' e' : ℕ) → m' ≤ m → e ≤ e' → Outside m e s s' → Outside m' e' s s'
outside_more m' e' l h a = record { keeps = λ u out. a.keeps u (λ p q. out (omega arith) (omega arith)) }

pub outside_store : (m e : ℕ) (s : List ℕ) (v x : ℕ) → m < v → v ≤ e → Outside m e s (set s (v - 1) x)
outside_store m e s v x low high =
    record { keeps = λ u out. kept_other s v u x (omega arith) (λ q. out (omega arith) (omega arith)) }

-- nodes m + 1 to e are as they were
pub record Same (m e : ℕ) (s s' : List ℕ) : Type 0 where
  pub keeps : (u : ℕ) → m < u → u ≤ e → kept s' u ≡ kept s u

pub outside_same : {m e : ℕ} {s s' : List ℕ} (p q : ℕ) → ((u : ℕ) → p < u → u ≤ q → m < u → u ≤ e → ⊥)
    → Outside m e s s' → Same p q s s'
outside_same p q apart a = record { keeps = λ u low high. a.keeps u (λ l h. apart u low high l h) }

pub same_less : {m e : ℕ} {s s' : List ℕ} (p q : ℕ) → m ≤ p → q ≤ e → Same m e s s' → Same p q s s'
same_less p q l h a = record { keeps = λ u low high. a.keeps u (omega arith) (omega arith) }

-- a store elsewhere
pub same_store : (m e : ℕ) (s : List ℕ) (v x : ℕ) → 1 ≤ v → (m < v → v ≤ e → ⊥) → Same m e s (set s (v - 1) x)
same_store m e s v x low out =
    record { keeps = λ u l h. kept_other s v u x low (λ q. out (omega arith) (omega arith)) }
