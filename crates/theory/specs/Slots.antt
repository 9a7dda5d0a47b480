-- Arrays with a slot for each node or page, and one for 0: what a pass over the nodes in their order keeps in them.
-- Defines Row, SlotsHold, prev_to. Proves slots_start, slots_store, row_add (a store); prevs_turn, prior_is (the sibling
-- just before each node); parent_is (its parent); home_is (its page). Assumes nothing.
use Rattle.std.specs.Prelude.{ℕ, zero, suc, ◌+◌, ◌-◌, ◌≤◌, ◌<◌, Bool, true, false, ◌≡◌, refl, List, length, get_or, set, replicate, eqb}
use Rattle.std.proofs.Common.{arith, add-one, sym, ◌∙◌, ap, length-set, eq-eqb, ne_eqb}
use Rattle.std.proofs.lemmas.List.{get_or-replicate}
use Rattle.std.proofs.lemmas.Bool.{eqb-false}
use Rattle.model.specs.Basics.{pick, last_to}
use Rattle.model.specs.Table.{slots, node_count, next_at}
use Rattle.model.specs.Plan.{prev_at, parent_at, page_of}
use Rattle.theory.specs.Ranges.{Upto, pick_true, last_to_yes, last_to_no}
use Rattle.theory.specs.Lists.{get_d_set}
use Rattle.theory.specs.TableFacts.{AcceptedFacts}
use Rattle.theory.specs.TableLinks.{prev_at_less}
use Rattle.theory.specs.PlanPass.{page_of_none, parent_at_step}

-- ---- Arrays

-- what stands at w after a store of x at q, where x is g q and all else had its g already
stored : (g : ℕ → ℕ) (l : List ℕ) (q x w : ℕ) → q < length l → x ≡ g q → ((w ≡ q → ⊥) → get_or l w 0 ≡ g w)
    → get_or (set l q x) w 0 ≡ g w
stored g l q x w fits e other = get_d_set l q x w (g w) (λ same. (fits, e ∙ ap g (sym same))) other

-- the list has f v at v, for each of the nodes 1 to n
abbrev pub Row : ℕ → (ℕ → ℕ) → List ℕ → Type 0
Row n f l = Upto n (λ v. get_or l v 0 ≡ f v)

-- an array has f w in each slot w
pub record SlotsHold (f : ℕ → ℕ) (l : List ℕ) : Type 0 where
  pub long : length l ≡ slots
  pub at : (w : ℕ) → w < slots → get_or l w 0 ≡ f w

pub slots_start : (f : ℕ → ℕ) → ((w : ℕ) → f w ≡ 0) → SlotsHold f (replicate slots 0)
slots_start f zeros = record { long = refl; at = λ w fits. get_or-replicate slots w 0 0 fits ∙ sym (zeros w) }

pub slots_store : {f : ℕ → ℕ} {l : List ℕ} (g : ℕ → ℕ) (q x : ℕ) → SlotsHold f l → q < slots → x ≡ g q
    → ((w : ℕ) → (w ≡ q → ⊥) → f w ≡ g w) → SlotsHold g (set l q x)
slots_store {f} {l} g q x h fits e same =
    record {
      long = simp length-set h.long;
      at = λ w within. stored g l q x w (omega (arith, h.long)) e (λ other. h.at w within ∙ same w other);
    }

-- one more node
pub row_add : (f : ℕ → ℕ) (l : List ℕ) (v x : ℕ) → Row v f l → v + 1 < length l → x ≡ f (v + 1)
    → Row (v + 1) f (set l (v + 1) x)
row_add f l v x row fits e u low high = stored f l (v + 1) x u fits e (λ other. row u low (omega arith))

-- ---- The sibling just before each node

-- the last of the nodes 1 to v with w just after it
abbrev pub prev_to : List ℕ → ℕ → ℕ → ℕ
prev_to t v w = last_to v (λ u. eqb (next_at t u) w)

pub prevs_turn : (t l : List ℕ) (v x : ℕ) → SlotsHold (prev_to t v) l → x ≡ next_at t (v + 1) → x < slots
    → SlotsHold (prev_to t (v + 1)) (set l x (v + 1))
prevs_turn t l v x h e fits =
    rw (add-one v)
    (slots_store (prev_to t (suc v)) x (suc v) h fits
    (sym (last_to_yes v (λ u. eqb (next_at t u) x) (eq-eqb (next_at t (suc v)) x next)))
    (λ w other.
    sym (last_to_no v (λ u. eqb (next_at t u) w) (ne_eqb (next_at t (suc v)) w (λ z. other (sym z ∙ next))))))
  where
    next : next_at t (suc v) ≡ x
    next = ap (next_at t) (sym (add-one v)) ∙ sym e

pub prior_is : (t l : List ℕ) (v : ℕ) → SlotsHold (prev_to t v) l → v + 1 < slots → get_or l (v + 1) 0 ≡ prev_at t (v + 1)
unfolding prev_at
prior_is t l v h fits =
    let same : v ≡ v + 1 - 1 = omega arith in
    h.at (v + 1) fits ∙ ap (λ (k : ℕ). last_to k (λ u. eqb (next_at t u) (v + 1))) same

-- ---- Parents

pub parent_is : {t : List ℕ} → AcceptedFacts t → (l : List ℕ) (v u x : ℕ) → Row v (parent_at t) l → v < node_count t
    → u ≡ prev_at t (v + 1) → x ≡ pick (eqb u 0) (v + 1 - 1) (get_or l u 0) → x ≡ parent_at t (v + 1)
parent_is {t} a l v u x row less e q =
    q ∙ go (eqb u 0) refl ∙ ap (λ (k : ℕ). pick (eqb k 0) (v + 1 - 1) (parent_at t k)) e
    ∙ sym (parent_at_step a.sound (v + 1) (omega arith) (omega arith))
  where
    go : (b : Bool) → eqb u 0 ≡ b → pick (eqb u 0) (v + 1 - 1) (get_or l u 0) ≡ pick (eqb u 0) (v + 1 - 1) (parent_at t u)
    go true p = pick_true (eqb u 0) (v + 1 - 1) (get_or l u 0) p ∙ sym (pick_true (eqb u 0) (v + 1 - 1) (parent_at t u) p)
    go false p =
        let other : u ≡ 0 → ⊥ = eqb-false u 0 p in
        ap (pick (eqb u 0) (v + 1 - 1)) (row u (omega arith) (omega (arith, prev_at_less t (v + 1) (omega arith))))

-- ---- Pages

-- the page of a node that is known, or of none
pub home_is : (t m l : List ℕ) (v u : ℕ) → Row v (page_of t m) l → get_or l 0 0 ≡ 0 → u ≤ v → get_or l u 0 ≡ page_of t m u
home_is t m l v zero row root high = root ∙ sym (page_of_none t m)
home_is t m l v (suc u) row root high = row (suc u) (omega arith) high
