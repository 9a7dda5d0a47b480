-- The sibling before each node, from the links to the sibling after. Defines Linking. Proves linking_start,
-- linking_turn and linking_end: one store a node. Assumes nothing.
use Prim.Native.Nat.{ℕ, ◌+◌, ◌≤◌, ◌<◌}
use mathlib.Core.Path.{◌≡◌, refl, sym, ◌∙◌, ap}
use mathlib.Core.Bool.{Bool, true, false}
use mathlib.Core.List.{List}
use native.Mathlib.Omega.{arith}
use lib.ListN.{length, get_or, set, replicate, length-set, length-replicate}
use lib.Seq.{get_or-set_same, get_or-set_other}
use lib.Dec.{eqb}
use borrow.Author.Tests.{eqb-true, eqb-false}
use Rattle.model.specs.Table.{slots, node_count, next_at}
use Rattle.model.specs.Plan.{prev_at}
use Rattle.theory.specs.TableFacts.{AcceptedFacts}
use Rattle.theory.specs.TableLinks.{prev_at_less, prev_at_next, next_prev, next_later, next_le}
use Rattle.theory.specs.Lists.{zeros}
use Rattle.theory.specs.SiblingsBack.{Earlier, SiblingsLinked}

-- the links from the nodes before v are kept
pub record Linking (t : List ℕ) (v : ℕ) (prevs : List ℕ) : Type 0 where
  pub long : length prevs ≡ slots
  pub seen : (u : ℕ) → 1 ≤ u → u ≤ node_count t → prev_at t u < v → get_or prevs u 0 ≡ prev_at t u
  pub earlier : Earlier prevs

pub linking_start : (t : List ℕ) → Linking t 1 (replicate slots 0)
linking_start t =
    record {
      long = length-replicate {A = ℕ} slots 0;
      seen = λ u low high h. let z : prev_at t u ≡ 0 = omega arith in zeros slots u ∙ sym z;
      earlier = λ u low. omega (arith, zeros slots u);
    }

module _ {t : List ℕ} (a : AcceptedFacts t) (v : ℕ) (low_v : 1 ≤ v) (high_v : v ≤ node_count t) where
  pub link_fits : next_at t v < slots
  link_fits = omega (arith, next_le a.sound v low_v high_v, a.sound.count_high)

  pub linking_turn : (x : ℕ) (prevs : List ℕ) → x ≡ next_at t v → Linking t v prevs → Linking t (v + 1) (set prevs x v)
  linking_turn x prevs e l =
      record {
        long = simp length-set l.long;
        seen = λ u low high h. seen u low high h (eqb u x) refl;
        earlier = λ u low. early u low (eqb u x) refl;
      }
    where
      fits : x < length prevs
      fits = omega (arith, l.long, link_fits)

      same : (u : ℕ) → u ≡ x → get_or (set prevs x v) u 0 ≡ v
      same u q = rw q (get_or-set_same prevs x v 0 fits)

      seen : (u : ℕ) → 1 ≤ u → u ≤ node_count t → prev_at t u < v + 1 → (b : Bool) → eqb u x ≡ b
          → get_or (set prevs x v) u 0 ≡ prev_at t u
      seen u low high h true q =
          let is : u ≡ x = eqb-true u x q in
          same u is ∙ sym (next_prev a.sound v u low_v high_v low (sym (is ∙ e)))
      seen u low high h false q =
          let other : u ≡ x → ⊥ = eqb-false u x q in
          let not_this : prev_at t u ≡ v → ⊥ =
          λ z. other (sym (prev_at_next t u (omega arith)) ∙ ap (next_at t) z ∙ sym e) in
          get_or-set_other prevs x u v 0 other ∙ l.seen u low high (omega arith)

      early : (u : ℕ) → 1 ≤ u → (b : Bool) → eqb u x ≡ b → get_or (set prevs x v) u 0 < u
      early u low true q =
          let is : u ≡ x = eqb-true u x q in
          omega (arith, same u is, next_later a.sound v low_v high_v (omega arith))
      early u low false q = omega (arith, get_or-set_other prevs x u v 0 (eqb-false u x q), l.earlier u low)

-- and 0 has none before it
pub linking_end : {t : List ℕ} (v : ℕ) (prevs : List ℕ) → node_count t < v → Linking t v prevs
    → SiblingsLinked t (set prevs 0 0)
linking_end {t} v prevs high l =
    record {
      before = λ u low up. other u low ∙ l.seen u low up (omega (arith, prev_at_less t u low));
      earlier = λ u low. omega (arith, other u low, l.earlier u low);
      none = get_or-set_same prevs 0 0 0 (omega (arith, l.long));
    }
  where
    other : (u : ℕ) → 1 ≤ u → get_or (set prevs 0 0) u 0 ≡ get_or prevs u 0
    other u low = get_or-set_other prevs 0 u 0 0 (λ q. omega arith)
