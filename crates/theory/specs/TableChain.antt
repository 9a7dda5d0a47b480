-- The chain that starts at a node of a table, by the node's number.
-- Defines chain_at, NodeAt (a node, the chain of its children and that of the siblings after it, with their numbers).
-- Proves chain_is, chain_none, node_at (each node of a table of sound form is so), next_smaller and link_within.
-- Assumes nothing.
use Rattle.std.specs.Prelude.{ℕ, suc, ◌≤◌, ◌<◌, ◌≡◌, List}
use Rattle.std.proofs.Common.{arith, sym, ◌∙◌, ap₂}
use Rattle.model.specs.Table.{node_count, limit_of, weight_at, label_at, first_at, next_at, Chain, end, node, chain_from}
use Rattle.theory.specs.PlanShape.{size, EachWithin}
use Rattle.theory.specs.TableFacts.{SoundFacts, AcceptedFacts}
use Rattle.theory.specs.TableNumbered.{Numbered, none, some, size_node, numbered_size, numbered_le}
use Rattle.theory.specs.TableNumbered.{numbered_chain, numbered_within, Between, between_join, sound_tree}

unfoldable pub chain_at : List ℕ → ℕ → Chain
chain_at t v = chain_from (node_count t) t v

-- what is numbered is the chain at its link
pub chain_is : {t : List ℕ} {m v e : ℕ} {c : Chain} → Numbered t m v c e → e ≤ node_count t → chain_at t v ≡ c
unfolding chain_at
chain_is {t} r h = numbered_chain r (node_count t) (omega (arith, numbered_size r))

pub chain_none : (t : List ℕ) → chain_at t 0 ≡ end
chain_none t = chain_is {t = t} {m = 0} none (omega arith)

pub record NodeAt (t : List ℕ) (u : ℕ) : Type 0 where
  pub last : ℕ
  pub fin : ℕ
  pub shape : chain_at t u ≡ node (weight_at t u) (label_at t u) (chain_at t (first_at t u)) (chain_at t (next_at t u))
  pub below : Numbered t u (first_at t u) (chain_at t (first_at t u)) last
  pub after : Numbered t last (next_at t u) (chain_at t (next_at t u)) fin
  pub inside : fin ≤ node_count t

module _ {t : List ℕ} where
  at_link : {m v e : ℕ} {c : Chain} → Numbered t m v c e → e ≤ node_count t → Numbered t m v (chain_at t v) e
  at_link r h = rw (chain_is r h) r

  numbered_at : {m v e : ℕ} {c : Chain} → Numbered t m v c e → e ≤ node_count t → Between m e (NodeAt t)
  numbered_at none h = λ u low high. absurd (omega arith)
  numbered_at (some {m = m} {e₁ = e₁} {e₂ = e₂} {kids = kids} {next = next} k s) h =
      let mid : e₁ ≤ node_count t = omega (arith, numbered_le s) in
      between_join (NodeAt t) m e₁ e₂
      (record {
        last = e₁;
        fin = e₂;
        shape = chain_is (some k s) h
            ∙ ap₂ (node (weight_at t (suc m)) (label_at t (suc m))) (sym (chain_is k mid)) (sym (chain_is s h));
        below = at_link k mid;
        after = at_link s h;
        inside = h;
      })
      (numbered_at k mid)
      (numbered_at s h)

  pub node_at : SoundFacts t → (u : ℕ) → 1 ≤ u → u ≤ node_count t → NodeAt t u
  node_at s u low high = numbered_at (sound_tree s) (omega arith) u (omega arith) high

  -- siblings after a node are fewer than the node and they
  pub next_smaller : {u : ℕ} → NodeAt t u → size (chain_at t (next_at t u)) < size (chain_at t u)
  next_smaller {u} a =
      rw a.shape
      (omega (arith, size_node (weight_at t u) (label_at t u) (chain_at t (first_at t u)) (chain_at t (next_at t u))))

  pub link_within : AcceptedFacts t → {m v e : ℕ} {c : Chain} → Numbered t m v c e → e ≤ node_count t
      → EachWithin (limit_of t) c
  link_within a r h = numbered_within (limit_of t) r (λ u low high. a.light u (omega arith) (omega arith))
