-- The single planner settles the nodes from the last to the first: each cuts children and keeps its own remainder.
-- Defines RemaindersKept (the siblings of a chain keep their remainders, and all below them is laid), Settled (what
-- settling a node does), SettledDown (nodes settled one after the other). Proves down_chain, down_kids, down_plan.
-- Assumes nothing.
use Rattle.std.specs.Prelude.{ℕ, suc, ◌+◌, ◌-◌, ◌≤◌, ◌<◌, ◌≡◌, refl, Bool, true, false, List, [], ◌∷◌, ◌++◌, length, set, drop, eqb}
use Rattle.std.proofs.Common.{arith, sym, ◌∙◌, ap, append-nil, length-set, eqb-true}
use Rattle.std.proofs.Math.Seq.{drop-length}
use Rattle.std.proofs.lemmas.Bool.{eqb-false}
use Rattle.model.specs.Basics.{pick}
use Rattle.model.specs.Table.{node_count, limit_of, first_at, next_at, weight_at, label_at, Chain, end, node, tree_of}
use Rattle.model.specs.Steps.{Member, rest_sum, whole, cut_down, remainders, lay_single, single_marks}
use Rattle.theory.specs.TableFacts.{SoundFacts}
use Rattle.theory.specs.PlanShape.{size}
use Rattle.theory.specs.TableNumbered.{Numbered, none, some, numbered_le, numbered_size, sound_tree, sound_root}
use Rattle.theory.specs.TableChain.{chain_at, chain_is, node_at}
use Rattle.greedy.specs.Kept.{kept, kept_same, Outside, outside_none, outside_then, outside_more, Same}
use Rattle.greedy.specs.Kept.{outside_same, same_store}
use Rattle.greedy.specs.SingleMembers.{members_at, LaidAt, members_same, laid_same, laid_marks}

pub record RemaindersKept (t s a : List ℕ) (v : ℕ) (c : Chain) : Type 0 where
  pub rests : members_at t s a v c ≡ remainders (limit_of t) c
  pub laid : LaidAt (limit_of t) t a v c (remainders (limit_of t) c)

remainders_same : {t : List ℕ} {m v e : ℕ} {c : Chain} {s s' a a' : List ℕ} → Numbered t m v c e → Same m e s s'
    → Same m e a a' → RemaindersKept t s a v c → RemaindersKept t s' a' v c
remainders_same {t} {c = c} r p q f =
    record {
      rests = members_same r p q
          ∙ f.rests;
      laid = laid_same (limit_of t) (remainders (limit_of t) c) r q f.laid;
    }

abbrev pub kids_of : List ℕ → ℕ → Chain
kids_of t u = chain_at t (first_at t u)

-- what node u keeps of its children
abbrev pub cut_kids : List ℕ → ℕ → List Member
cut_kids t u = cut_down (limit_of t) (weight_at t u) (remainders (limit_of t) (kids_of t u))

pub record Settled (t : List ℕ) (u : ℕ) (s a s' a' : List ℕ) : Type 0 where
  pub laid : LaidAt (limit_of t) t a' (first_at t u) (kids_of t u) (cut_kids t u)
  pub rest : kept s' u ≡ weight_at t u + rest_sum (cut_kids t u)
  pub mark : kept a' u ≡ 0
  pub rests_outside : Outside (u - 1) (u + size (kids_of t u)) s s'
  pub marks_outside : Outside (u - 1) (u + size (kids_of t u)) a a'

-- from s and a, the nodes n down to b + 1 are settled
pub data SettledDown (t s a : List ℕ) (n : ℕ) : ℕ → List ℕ → List ℕ → Type 0 where
  start : SettledDown t s a n n s a
  step : {b : ℕ} {s₁ a₁ s₂ a₂ : List ℕ} → SettledDown t s a n (suc b) s₁ a₁ → Settled t (suc b) s₁ a₁ s₂ a₂
      → SettledDown t s a n b s₂ a₂

module _ {t s a : List ℕ} {n : ℕ} where
  down_le : {b : ℕ} {s₁ a₁ : List ℕ} → SettledDown t s a n b s₁ a₁ → b ≤ n
  down_le start = omega arith
  down_le (step d x) = omega (arith, down_le d)

  down_none : {b : ℕ} {s₁ a₁ : List ℕ} → SettledDown t s a n b s₁ a₁ → n ≡ b → (s₁ ≡ s) × (a₁ ≡ a)
  down_none start e = (refl, refl)
  down_none (step d x) e = absurd (omega (arith, down_le d))

-- the last node settled
record LastSettled (t s a : List ℕ) (n b : ℕ) (s₂ a₂ : List ℕ) : Type 0 where
  pub s₁ : List ℕ
  pub a₁ : List ℕ
  pub before : SettledDown t s a n (suc b) s₁ a₁
  pub here : Settled t (suc b) s₁ a₁ s₂ a₂

down_last : {t s a : List ℕ} {n b : ℕ} {s₂ a₂ : List ℕ} → SettledDown t s a n b s₂ a₂ → b < n
    → LastSettled t s a n b s₂ a₂
down_last start h = absurd (omega arith)
down_last (step d x) h = record { s₁ = _; a₁ = _; before = d; here = x }

-- settling in two parts
record SettledParts (t s a : List ℕ) (n q b : ℕ) (s₂ a₂ : List ℕ) : Type 0 where
  pub s₁ : List ℕ
  pub a₁ : List ℕ
  pub before : SettledDown t s a n q s₁ a₁
  pub after : SettledDown t s₁ a₁ q b s₂ a₂

down_parts : {t s a : List ℕ} {n b : ℕ} {s₂ a₂ : List ℕ} (q : ℕ) → SettledDown t s a n b s₂ a₂ → b ≤ q → q ≤ n
    → SettledParts t s a n q b s₂ a₂
down_parts {t} {s} {a} {n} q start l h =
    let e : q ≡ n = omega arith in
    rw e (record { s₁ = s; a₁ = a; before = start; after = start })
down_parts {t} {s} {a} {n} q (step {b = b} {s₁ = s₁} {a₁ = a₁} {s₂ = s₂} {a₂ = a₂} d x) l h =
    go (eqb q b) refl (down_parts q d)
  where
    go : (o : Bool) → eqb q b ≡ o → (suc b ≤ q → q ≤ n → SettledParts t s a n q (suc b) s₁ a₁)
        → SettledParts t s a n q b s₂ a₂
    go true e ih =
        let same : q ≡ b = eqb-true q b e in
        rw same (record { s₁ = s₂; a₁ = a₂; before = step d x; after = start })
    go false e ih =
        let other : q ≡ b → ⊥ = eqb-false q b e in
        let p = ih (omega arith) h in
        record { s₁ = p.s₁; a₁ = p.a₁; before = p.before; after = step p.after x }

-- a node by its settling: it keeps its remainder, and all below it is laid
remainders_node : {t : List ℕ} {m e₁ e₂ : ℕ} {kids next : Chain} {s a s' a' : List ℕ}
    → Numbered t (suc m) (first_at t (suc m)) kids e₁ → Numbered t e₁ (next_at t (suc m)) next e₂ → e₂ ≤ node_count t
    → Settled t (suc m) s a s' a' → RemaindersKept t s a (next_at t (suc m)) next
    → RemaindersKept t s' a' (suc m) (node (weight_at t (suc m)) (label_at t (suc m)) kids next)
unfolding members_at remainders LaidAt whole pick
remainders_node {t} {m} {e₁} {e₂} {kids} {next} {s} {a} {s'} {a'} k n high x f =
    let low : e₁ ≤ e₂ = numbered_le n in
    let is : kids_of t (suc m) ≡ kids = chain_is k (omega arith) in
    let ends : e₁ ≡ suc m + size kids = numbered_size k in
    let sized : size (kids_of t (suc m)) ≡ size kids = ap size is in
    let after =
    remainders_same n (outside_same e₁ e₂ (λ u a b c d. omega arith) x.rests_outside)
    (outside_same e₁ e₂ (λ u a b c d. omega arith) x.marks_outside) f in
    let cut : List Member = cut_down (limit_of t) (weight_at t (suc m)) (remainders (limit_of t) kids) in
    let rest : kept s' (suc m) ≡ weight_at t (suc m) + rest_sum cut = rw is at x.rest in
    let laid : LaidAt (limit_of t) t a' (first_at t (suc m)) kids cut = rw is at x.laid in
    record { rests = rw (rest, x.mark, after.rests); laid = (x.mark, laid, after.laid) }

-- what was settled of a chain
record ChainSettled (t s a : List ℕ) (m v : ℕ) (c : Chain) (e : ℕ) (s' a' : List ℕ) : Type 0 where
  pub rests_kept : RemaindersKept t s' a' v c
  pub rests_outside : Outside m e s s'
  pub marks_outside : Outside m e a a'

remainders_end : (t s a : List ℕ) (v : ℕ) → RemaindersKept t s a v end
unfolding members_at remainders LaidAt
remainders_end t s a v = record { rests = refl; laid = tt }

down_chain : {t : List ℕ} {m v e : ℕ} {c : Chain} {s a s' a' : List ℕ} → Numbered t m v c e → e ≤ node_count t
    → SettledDown t s a e m s' a' → ChainSettled t s a m v c e s' a'
down_chain {t} {s = s} {a = a} {s' = s'} {a' = a'} (none {m = m}) h d =
    let same = down_none d refl in
    rw (same.0, same.1)
    (record {
      rests_kept = remainders_end t s a 0;
      rests_outside = outside_none m m s;
      marks_outside = outside_none m m a;
    })
down_chain {t} {s = s} {a = a} {s' = s'} {a' = a'} (some {m = m} {e₁ = e₁} {e₂ = e₂} {kids = kids} {next = next} k n) h d =
    let low : e₁ ≤ e₂ = numbered_le n in
    let mid : suc m ≤ e₁ = numbered_le k in
    let l = down_last d (omega arith) in
    let p = down_parts e₁ l.before mid low in
    let after = down_chain n h p.before in
    let below = down_chain k (omega arith) p.after in
    let is : kids_of t (suc m) ≡ kids = chain_is k (omega arith) in
    let ends : e₁ ≡ suc m + size kids = numbered_size k in
    let sized : size (kids_of t (suc m)) ≡ size kids = ap size is in
    let kept_next =
    remainders_same n (outside_same e₁ e₂ (λ u a b c d. omega arith) below.rests_outside)
    (outside_same e₁ e₂ (λ u a b c d. omega arith) below.marks_outside) after.rests_kept in
    record {
      rests_kept = remainders_node k n h l.here kept_next;
      rests_outside = outside_then (outside_more m e₂ (omega arith) (omega arith) after.rests_outside)
          (outside_then (outside_more m e₂ (omega arith) (omega arith) below.rests_outside)
          (outside_more m e₂ (omega arith) (omega arith) l.here.rests_outside));
      marks_outside = outside_then (outside_more m e₂ (omega arith) (omega arith) after.marks_outside)
          (outside_then (outside_more m e₂ (omega arith) (omega arith) below.marks_outside)
          (outside_more m e₂ (omega arith) (omega arith) l.here.marks_outside));
    }

-- where the nodes after v are settled, the children of v are fresh
pub down_kids : {t s a s' a' : List ℕ} {v : ℕ} → SoundFacts t → 1 ≤ v → v ≤ node_count t
    → SettledDown t s a (node_count t) v s' a' → RemaindersKept t s' a' (first_at t v) (kids_of t v)
down_kids {t} {v = v} sound low high d =
    let x = node_at sound v low high in
    let p = down_parts x.last d (numbered_le x.below) (omega (arith, numbered_le x.after, x.inside)) in
    (down_chain x.below (omega (arith, numbered_le x.after, x.inside)) p.after).rests_kept

-- where all nodes are settled, and the first is marked, the marks are the plan
pub down_plan : {t s a s' a' : List ℕ} → SoundFacts t → SettledDown t s a (node_count t) 0 s' a'
    → length a' ≡ node_count t → set a' 0 1 ≡ single_marks (limit_of t) (tree_of t)
unfolding single_marks remainders LaidAt pick
down_plan {t} {a' = a'} sound d long =
    let x = sound_root sound in
    let K = limit_of t in
    let one : List Member = record { rest = 0; gain = 0; taken = true } ∷ [] in
    let all = rw x.shape at (down_chain (sound_tree sound) (omega arith) d).rests_kept.laid in
    let marked : LaidAt K t (set a' 0 1) 1 (node (weight_at t 1) (label_at t 1) x.kids end) one = (
      kept_same a' 1 1 (omega arith) (omega (arith, sound.count_low)),
      laid_same K (cut_down K (weight_at t 1) (remainders K x.kids)) x.below
          (same_store 1 (node_count t) a' 1 1 (omega arith) (λ l h. omega arith)) all.1,
      tt,
    ) in
    let long' : length (set a' 0 1) ≡ node_count t = simp length-set long in
    laid_marks K (set a' 0 1) one (sound_tree sound) (omega arith) (rw x.shape marked)
    ∙ ap (λ (l : List ℕ). lay_single K (tree_of t) one ++ l)
    (ap (λ (n : ℕ). drop n (set a' 0 1)) (sym long') ∙ drop-length (set a' 0 1))
    ∙ append-nil (lay_single K (tree_of t) one)
