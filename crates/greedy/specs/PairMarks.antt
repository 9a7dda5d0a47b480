-- The pair planner by node number: the remainders that the scratch keeps, and the marks that each node gives its first
-- child and its next sibling.
-- Defines Rests, SidesAt, first_cut_at, next_cut_at, LinkMarks, put. Proves pair_plan: with these marks for every node, the
-- marks are the plan. Assumes nothing.
use Prim.Native.Nat.{ℕ, zero, suc, ◌-◌, ◌≤◌, ◌<◌}
use Rattle.std.proofs.Common.{arith, ◌∙◌, length-set, get_or-set_same, get_or-set_other}
use Rattle.std.specs.Prelude.{◌≡◌, Bool, true, length, set, drop, eqb}
use Rattle.std.proofs.Math.Path.{refl, sym, ap, ap₂}
use mathlib.Core.List.{List, ◌∷◌, ◌++◌, append_assoc, append-nil}
use Rattle.std.proofs.Math.Seq.{drop-cons, drop-length}
use Rattle.model.specs.Basics.{pick}
use Rattle.model.specs.Table.{node_count, limit_of, first_at, next_at, weight_at, Chain, tree_of}
use Rattle.model.specs.Steps.{sides, remainder, taken_at, lay_pair, pair_marks}
use Rattle.theory.specs.TableFacts.{SoundFacts}
use Rattle.theory.specs.TableNumbered.{Numbered, none, some, numbered_le, Between, sound_tree}
use Rattle.theory.specs.TableChain.{chain_at, chain_is}
use Rattle.greedy.specs.Kept.{kept, kept_suc}
use Rattle.greedy.specs.declared.sides.Sides.{Sides}

-- the remainder of the chain at node v
abbrev pub remainder_at : List ℕ → ℕ → ℕ
remainder_at t v = remainder (limit_of t) (chain_at t v)

-- the scratch keeps the remainders of the nodes after v
pub record Rests (t s : List ℕ) (v : ℕ) : Type 0 where
  pub rests : (u : ℕ) → v < u → u ≤ node_count t → kept s u ≡ remainder_at t u

-- the same, and node v is a node
pub record PairReady (t s : List ℕ) (v : ℕ) : Type 0 where
  pub above : Rests t s v
  pub low : 1 ≤ v
  pub high : v ≤ node_count t

-- node v and its sides
pub record SidesAt (t : List ℕ) (v : ℕ) (s : Sides) : Type 0 where
  pub limit : s.limit ≡ limit_of t
  pub weight : s.weight ≡ weight_at t v
  pub left : s.left ≡ remainder_at t (first_at t v)
  pub right : s.right ≡ remainder_at t (next_at t v)

-- whether node u cuts its first child, and its next sibling
unfoldable pub first_cut_at : List ℕ → ℕ → Bool
first_cut_at t u = taken_at 0 (sides (limit_of t) (weight_at t u) (remainder_at t (first_at t u)) (remainder_at t (next_at t u)))

unfoldable pub next_cut_at : List ℕ → ℕ → Bool
next_cut_at t u = taken_at 1 (sides (limit_of t) (weight_at t u) (remainder_at t (first_at t u)) (remainder_at t (next_at t u)))

-- the mark of an uncut sibling after one with mark k
unfoldable pub uncut_after : ℕ → ℕ
uncut_after k = pick (eqb k 0) 0 2

-- the marks that node u gives
pub record LinkMarks (t a : List ℕ) (u : ℕ) : Type 0 where
  pub first : 1 ≤ first_at t u → kept a (first_at t u) ≡ pick (first_cut_at t u) 1 0
  pub next : 1 ≤ next_at t u → kept a (next_at t u) ≡ pick (next_cut_at t u) 1 (uncut_after (kept a u))

-- a mark stored at a node; nothing for no node
unfoldable pub put : List ℕ → ℕ → ℕ → List ℕ
put a zero x = a
put a (suc i) x = set a i x

pub put_none : (a : List ℕ) (x : ℕ) → put a 0 x ≡ a
unfolding put
put_none a x = refl

pub put_some : (a : List ℕ) (v x : ℕ) → 1 ≤ v → set a (v - 1) x ≡ put a v x
unfolding put
put_some a zero x low = absurd (omega arith)
put_some a (suc i) x low = let e : suc i - 1 ≡ i = omega arith in rw e

pub length-put : (a : List ℕ) (v x : ℕ) → length (put a v x) ≡ length a
unfolding put
length-put a zero x = refl
length-put a (suc i) x = length-set a i x

pub put_same : (a : List ℕ) (v x : ℕ) → 1 ≤ v → v ≤ length a → kept (put a v x) v ≡ x
unfolding put kept
put_same a zero x low high = absurd (omega arith)
put_same a (suc i) x low high = get_or-set_same a i x 0 (omega arith)

pub put_other : (a : List ℕ) (v u x : ℕ) → (u ≡ v → ⊥) → kept (put a v x) u ≡ kept a u
unfolding put kept
put_other a zero u x ne = refl
put_other a (suc i) zero x ne = refl
put_other a (suc i) (suc j) x ne = get_or-set_other a i j x 0 (λ e. ne (omega arith))

-- what the step at node v makes of the marks
unfoldable pub laid_below : List ℕ → List ℕ → ℕ → List ℕ
laid_below t a v =
    put (put a (first_at t v) (pick (first_cut_at t v) 1 0)) (next_at t v) (pick (next_cut_at t v) 1 (uncut_after (kept a v)))

-- ---- The plan

module _ {t : List ℕ} (a : List ℕ) where
  pair_marks_lem : {m v e : ℕ} {c : Chain} (cut : Bool) (uncut : ℕ) → Numbered t m v c e → e ≤ node_count t → e ≤ length a
      → Between m e (LinkMarks t a) → (1 ≤ v → kept a v ≡ pick cut 1 uncut)
      → drop m a ≡ lay_pair (limit_of t) c cut uncut ++ drop e a
  unfolding lay_pair first_cut_at next_cut_at uncut_after
  pair_marks_lem cut uncut none h l marks here = refl
  pair_marks_lem cut uncut (some {m = m} {e₁ = e₁} {e₂ = e₂} {kids = kids} {next = next} k n) h l marks here =
      let K = limit_of t in
      let low : e₁ ≤ e₂ = numbered_le n in
      let mid : suc m ≤ e₁ = numbered_le k in
      let ks : chain_at t (first_at t (suc m)) ≡ kids = chain_is k (omega arith) in
      let ns : chain_at t (next_at t (suc m)) ≡ next = chain_is n h in
      let ms = sides K (weight_at t (suc m)) (remainder K kids) (remainder K next) in
      let x = marks (suc m) (omega arith) (omega arith) in
      let mark : kept a (suc m) ≡ pick cut 1 uncut = here (omega arith) in
      let same : sides K (weight_at t (suc m)) (remainder_at t (first_at t (suc m))) (remainder_at t (next_at t (suc m)))
      ≡ ms = ap₂ (λ (c d : Chain). sides K (weight_at t (suc m)) (remainder K c) (remainder K d)) ks ns in
      let left : first_cut_at t (suc m) ≡ taken_at 0 ms = ap (taken_at 0) same in
      let right : next_cut_at t (suc m) ≡ taken_at 1 ms = ap (taken_at 1) same in
      let below =
      pair_marks_lem (taken_at 0 ms) 0 k (omega arith) (omega arith) (λ u lo hi. marks u (omega arith) (omega arith))
      (λ lo. x.first lo ∙ ap (λ (b : Bool). pick b 1 0) left) in
      let after =
      pair_marks_lem (taken_at 1 ms) (pick (eqb (pick cut 1 uncut) 0) 0 2) n h l
      (λ u lo hi. marks u (omega arith) (omega arith))
      (λ lo. x.next lo ∙ ap₂ (λ (b : Bool) (q : ℕ). pick b 1 (pick (eqb q 0) 0 2)) right mark) in
      drop-cons a m 0 (omega arith)
      ∙ ap₂ (λ (b : ℕ) (r : List ℕ). b ∷ r) (sym (kept_suc a m) ∙ mark)
      (below
      ∙ ap (λ (r : List ℕ). lay_pair K kids (taken_at 0 ms) 0 ++ r) after
      ∙ sym
      (append_assoc (lay_pair K kids (taken_at 0 ms) 0)
      (lay_pair K next (taken_at 1 ms) (pick (eqb (pick cut 1 uncut) 0) 0 2)) (drop e₂ a)))

pub pair_plan : {t : List ℕ} (a : List ℕ) → SoundFacts t → length a ≡ node_count t → kept a 1 ≡ 1
    → Between 0 (node_count t) (LinkMarks t a) → a ≡ pair_marks (limit_of t) (tree_of t)
unfolding pair_marks pick
pair_plan {t} a sound long one marks =
    pair_marks_lem a true 0 (sound_tree sound) (omega arith) (omega arith) marks (λ l. one)
    ∙ ap (λ (l : List ℕ). lay_pair (limit_of t) (tree_of t) true 0 ++ l)
    (ap (λ (n : ℕ). drop n a) (sym long) ∙ drop-length a)
    ∙ append-nil (lay_pair (limit_of t) (tree_of t) true 0)
