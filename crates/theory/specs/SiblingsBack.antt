-- Siblings from one of them back, by number: a list of what each gives, the last first; the children of a node; and
-- what an array keeps of the sibling before each node.
-- Defines back_from, list_back; ChildOrNone, after_at; SiblingsBefore, Earlier, SiblingsLinked. Proves list_none,
-- list_cons, list_length, list_same; prev_child, child_high. Assumes nothing.
use Prim.Native.Nat.{ℕ, zero, suc, ◌≤◌, ◌<◌}
use native.Mathlib.Omega.{arith}
use Rattle.std.specs.Prelude.{◌≡◌, Bool, true, false, ◌⊎◌, length, get_or, eqb}
use Rattle.std.proofs.Math.Path.{refl, ap, ap₂}
use Rattle.std.proofs.Common.{sym, ◌∙◌, inl, inr, eqb-true}
use mathlib.Core.List.{List, [], ◌∷◌}
use Rattle.std.proofs.lemmas.Bool.{eqb-false}
use Rattle.model.specs.Basics.{pick}
use Rattle.model.specs.Table.{node_count, first_at, next_at}
use Rattle.model.specs.Plan.{prev_at, parent_at}
use Rattle.theory.specs.TableLinks.{prev_at_less, parent_at_later}

-- ---- A list from the last back

-- what x gives for place u and for those before it by p, the last first; f bounds them, and 0 is none
unfoldable pub back_from : {A : Type 0} → ℕ → (ℕ → A) → (ℕ → ℕ) → ℕ → List A
back_from zero x p u = []
back_from (suc f) x p zero = []
back_from (suc f) x p (suc u) = x (suc u) ∷ back_from f x p (p (suc u))

unfoldable pub list_back : {A : Type 0} → (ℕ → A) → (ℕ → ℕ) → ℕ → List A
list_back x p u = back_from u x p u

pub list_none : {A : Type 0} (x : ℕ → A) (p : ℕ → ℕ) → list_back x p 0 ≡ []
unfolding list_back back_from
list_none x p = refl

module _ {A : Type 0} (x : ℕ → A) (p : ℕ → ℕ) (less : (u : ℕ) → 1 ≤ u → p u < u) where
  back_enough : (f g u : ℕ) → u ≤ f → u ≤ g → back_from f x p u ≡ back_from g x p u
  unfolding back_from
  back_enough zero zero u a b = refl
  back_enough zero (suc g) zero a b = refl
  back_enough zero (suc g) (suc u) a b = absurd (omega arith)
  back_enough (suc f) zero zero a b = refl
  back_enough (suc f) zero (suc u) a b = absurd (omega arith)
  back_enough (suc f) (suc g) zero a b = refl
  back_enough (suc f) (suc g) (suc u) a b =
      let l : p (suc u) < suc u = less (suc u) (omega arith) in
      ap (λ xs. x (suc u) ∷ xs) (back_enough f g (p (suc u)) (omega arith) (omega arith))

  pub list_cons : (u : ℕ) → 1 ≤ u → list_back x p u ≡ x u ∷ list_back x p (p u)
  unfolding list_back back_from
  list_cons zero a = absurd (omega arith)
  list_cons (suc u) a =
      let l : p (suc u) < suc u = less (suc u) (omega arith) in
      ap (λ xs. x (suc u) ∷ xs) (back_enough u (p (suc u)) (p (suc u)) (omega arith) (omega arith))

  back_length : (f u : ℕ) → length (back_from f x p u) ≤ u
  unfolding back_from
  back_length zero u = omega arith
  back_length (suc f) zero = omega arith
  back_length (suc f) (suc u) = omega (arith, back_length f (p (suc u)), less (suc u) (omega arith))

  pub list_length : (u : ℕ) → length (list_back x p u) ≤ u
  unfolding list_back
  list_length u = back_length u u

-- it is the same where it is the same at each place
module _ {A : Type 0} {x y : ℕ → A} {p q : ℕ → ℕ} (In : ℕ → Type 0)
    (step : (u : ℕ) → 1 ≤ u → In u → (x u ≡ y u) × (p u ≡ q u) × In (q u))
  where
    back_same : (f u : ℕ) → In u → back_from f x p u ≡ back_from f y q u
    unfolding back_from
    back_same zero u i = refl
    back_same (suc f) zero i = refl
    back_same (suc f) (suc u) i =
        let s = step (suc u) (omega arith) i in
        ap₂ ◌∷◌ s.0 (ap (back_from f x p) s.1 ∙ back_same f (q (suc u)) s.2)

    pub list_same : (u : ℕ) → In u → list_back x p u ≡ list_back y q u
    unfolding list_back
    list_same u i = back_same u u i

-- ---- The children of a node

-- 0, or a child of node v
abbrev pub ChildOrNone : List ℕ → ℕ → ℕ → Type 0
ChildOrNone t v u = (u ≡ 0) ⊎ ((1 ≤ u) × (u ≤ node_count t) × (parent_at t u ≡ v))

pub prev_child : (t : List ℕ) (v u : ℕ) → 1 ≤ u → u ≤ node_count t → parent_at t u ≡ v → ChildOrNone t v (prev_at t u)
prev_child t v u low high e = go (eqb (prev_at t u) 0) refl
  where
    go : (b : Bool) → eqb (prev_at t u) 0 ≡ b → ChildOrNone t v (prev_at t u)
    go true q = inl (eqb-true (prev_at t u) 0 q)
    go false q =
        let d : prev_at t u ≡ 0 → ⊥ = eqb-false (prev_at t u) 0 q in
        let one : 1 ≤ prev_at t u = omega arith in
        inr (one, omega (arith, prev_at_less t u low), sym (parent_at_later t u low one) ∙ e)

pub child_high : (t : List ℕ) (v u : ℕ) → ChildOrNone t v u → u ≤ node_count t
child_high t v u (inl e) = omega arith
child_high t v u (inr q) = q.1

-- the link after the child u of node v, or to its first child where u is 0
abbrev pub after_at : List ℕ → ℕ → ℕ → ℕ
after_at t v u = pick (eqb u 0) (first_at t v) (next_at t u)

-- ---- The sibling before, in an array

-- the sibling before is kept
abbrev pub SiblingsBefore : List ℕ → List ℕ → Type 0
SiblingsBefore t prevs = (u : ℕ) → 1 ≤ u → u ≤ node_count t → get_or prevs u 0 ≡ prev_at t u

-- the sibling before a node comes before it
abbrev pub Earlier : List ℕ → Type 0
Earlier prevs = (u : ℕ) → 1 ≤ u → get_or prevs u 0 < u

-- the sibling before each node is kept, and 0 before none
pub record SiblingsLinked (t prevs : List ℕ) : Type 0 where
  pub before : SiblingsBefore t prevs
  pub earlier : Earlier prevs
  pub none : get_or prevs 0 0 ≡ 0
