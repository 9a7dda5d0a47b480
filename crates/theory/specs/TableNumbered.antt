-- The nodes of a table, numbered in the order of the walk. `Numbered t m v c e` says: the link v of the table t starts
-- the chain c, whose nodes and all below them are numbered m + 1 to e. A walk that does not fail and such a numbering
-- of all nodes are the same, the chain is the tree of the table, and what holds of the numbers holds of the chain's
-- nodes. Assumes nothing.
use Rattle.std.specs.Prelude.{ℕ, zero, suc, ◌+◌, ◌*◌, ◌≤◌, ◌<◌, Bool, true, not, ◌&&◌, ◌≡◌, refl, List, [], ◌∷◌, eqb, ltb, leb}
use Rattle.std.proofs.Common.{arith, eq-or-lt_of_le, sym, ◌∙◌, ap, ⊎_elim, eqb-true, eq-eqb, lt-ltb, leb-true, leb-false}
use Rattle.std.proofs.lemmas.Bool.{not-false}
use Rattle.model.specs.Table.{node_count, limit_of, weight_at, label_at, first_at, next_at, walk_from, Chain, end, node}
use Rattle.model.specs.Table.{chain_from, tree_of}
use Rattle.std.specs.declared.option.Option.{Option}
use Rattle.std.specs.declared.option.Option.TheVariants.{Some, None}
use Rattle.theory.specs.Bools.{bool_cases, both_true}
use Rattle.theory.specs.PlanShape.{size, EachWithin}
use Rattle.theory.specs.Ranges.{pick_true, pick_false, when_false, when_nowhere, at_nowhere}
use Rattle.theory.specs.TableFacts.{SoundFacts, AcceptedFacts}

pub data Numbered (t : List ℕ) : ℕ → ℕ → Chain → ℕ → Type 0 where
  none : {m : ℕ} → Numbered t m 0 end m
  some : {m e₁ e₂ : ℕ} {kids next : Chain} → Numbered t (suc m) (first_at t (suc m)) kids e₁
      → Numbered t e₁ (next_at t (suc m)) next e₂
      → Numbered t m (suc m) (node (weight_at t (suc m)) (label_at t (suc m)) kids next) e₂

-- ---- Sizes

size_end : size end ≡ 0
unfolding size
size_end = refl

pub size_node : (w l : ℕ) (kids next : Chain) → size (node w l kids next) ≡ suc (size kids + size next)
unfolding size
size_node w l kids next = refl

pub numbered_size : {t : List ℕ} {m v e : ℕ} {c : Chain} → Numbered t m v c e → e ≡ m + size c
unfolding size
numbered_size none = omega arith
numbered_size (some k s) = omega (arith, numbered_size k, numbered_size s)

pub numbered_le : {t : List ℕ} {m v e : ℕ} {c : Chain} → Numbered t m v c e → m ≤ e
numbered_le r = omega (arith, numbered_size r)

-- ---- What a numbering is, by its link

-- no link: no node
numbered_none : {t : List ℕ} {m v e : ℕ} {c : Chain} → Numbered t m v c e → v ≡ 0 → (c ≡ end) × (e ≡ m)
numbered_none none z = (refl, refl)
numbered_none (some k s) z = absurd (omega arith)

-- a link v: the node v, its children up to some number, and its siblings after them
record NumberedNode (t : List ℕ) (m v : ℕ) (c : Chain) (e : ℕ) : Type 0 where
  kids : Chain
  next : Chain
  last : ℕ
  here : v ≡ suc m
  shape : c ≡ node (weight_at t v) (label_at t v) kids next
  below : Numbered t v (first_at t v) kids last
  after : Numbered t last (next_at t v) next e

numbered_some : {t : List ℕ} {m v e : ℕ} {c : Chain} → Numbered t m v c e → 1 ≤ v → NumberedNode t m v c e
numbered_some none low = absurd (omega arith)
numbered_some (some {e₁ = last} {kids = kids} {next = next} k s) low =
    record { kids = kids; next = next; last = last; here = refl; shape = refl; below = k; after = s }

-- ---- The walk

-- the links of a list, one after the other, start chains numbered m + 1 to e
data Pending (t : List ℕ) : ℕ → List ℕ → ℕ → Type 0 where
  done : {m : ℕ} → Pending t m [] m
  more : {m v e₁ e₂ : ℕ} {c : Chain} {vs : List ℕ} → Numbered t m v c e₁ → Pending t e₁ vs e₂ → Pending t m (v ∷ vs) e₂

pending_end : {t : List ℕ} {m e : ℕ} → m ≡ e → Pending t m [] e
pending_end {t} {m} q = rw (← q) done

pending_node : {t : List ℕ} {m a b e : ℕ} {vs : List ℕ} → a ≡ first_at t (suc m) → b ≡ next_at t (suc m)
    → Pending t (suc m) (a ∷ b ∷ vs) e → Pending t m (suc m ∷ vs) e
pending_node p q (more k (more s r)) = more (some (rw p at k) (rw q at s)) r

walk_pending : (f : ℕ) (t : List ℕ) (n met : ℕ) (vs : List ℕ) → walk_from f t n met vs ≡ None → Pending t met vs n
unfolding walk_from
walk_pending zero t n met vs e = absurd (at_nowhere met e)
walk_pending (suc f) t n met [] e =
    pending_end (eqb-true met n (not-false (eqb met n) (when_nowhere (not (eqb met n)) met e)))
walk_pending (suc f) t n met (zero ∷ vs) e = more none (walk_pending f t n met vs e)
walk_pending (suc f) t n met (suc v ∷ vs) e =
    let test : Bool = eqb v met && ltb met n in
    let links : List ℕ = first_at t (suc v) ∷ next_at t (suc v) ∷ vs in
    let further : Option ℕ = walk_from f t n (suc met) links in
    ⊎_elim
    (λ q.
    let same : v ≡ met = eqb-true v met (both_true (eqb v met) (ltb met n) q).0 in
    let rest : Pending t (suc met) links n =
    walk_pending f t n (suc met) links (sym (pick_true test further (Some met) q) ∙ e) in
    rw same (pending_node (ap (λ u. first_at t (suc u)) same) (ap (λ u. next_at t (suc u)) same) rest))
    (λ q. absurd (at_nowhere met (sym (pick_false test further (Some met) q) ∙ e))) (bool_cases test)

pending_one : {t : List ℕ} {m v e : ℕ} → Pending t m (v ∷ []) e → (c : Chain) × Numbered t m v c e
pending_one (more {c = c} r done) = (c, r)

-- a walk that does not fail numbers the nodes
walk_numbered : (f : ℕ) (t : List ℕ) (n met v : ℕ) → walk_from f t n met (v ∷ []) ≡ None
    → (c : Chain) × Numbered t met v c n
walk_numbered f t n met v e = pending_one (walk_pending f t n met (v ∷ []) e)

-- the walk passes over what is numbered
walk_over : {t : List ℕ} {m v e : ℕ} {c : Chain} → Numbered t m v c e → (n f g : ℕ) (vs : List ℕ) → e ≤ n
    → g ≡ 2 * size c + suc f
    → walk_from g t n m (v ∷ vs) ≡ walk_from f t n e vs
unfolding walk_from
walk_over {t} {m} none n f g vs high q =
    let same : g ≡ suc f = omega (arith, size_end) in rw same
walk_over {t} (some {m = m} {e₁ = e₁} {e₂ = e₂} {kids = kids} {next = next} k s) n f g vs high q =
    let h : ℕ = 2 * size next + suc f in
    let h' : ℕ = 2 * size kids + suc h in
    let same : g ≡ suc h' = omega (arith, size_node (weight_at t (suc m)) (label_at t (suc m)) kids next) in
    let low : m < n = omega (arith, numbered_le k, numbered_le s) in
    let test : (eqb m m && ltb m n) ≡ true = rw (eq-eqb m m refl, lt-ltb m n low) in
    rw same
    (pick_true (eqb m m && ltb m n) (walk_from h' t n (suc m) (first_at t (suc m) ∷ next_at t (suc m) ∷ vs)) (Some m) test
    ∙ walk_over k n h h' (next_at t (suc m) ∷ vs) (omega (arith, numbered_le s)) refl
    ∙ walk_over s n f h vs high refl)

pub numbered_walk : {t : List ℕ} {v n : ℕ} {c : Chain} → Numbered t 0 v c n
    → walk_from (2 * n + 2) t n 0 (v ∷ []) ≡ None
unfolding walk_from
numbered_walk {t} {v} {n} {c} r =
    walk_over r n 1 (2 * n + 2) [] (omega arith) (omega (arith, numbered_size r))
    ∙ when_false (not (eqb n n)) n (ap not (eq-eqb n n refl))

-- ---- The tree of the table

pub numbered_chain : {t : List ℕ} {m v e : ℕ} {c : Chain} → Numbered t m v c e → (f : ℕ) → size c ≤ f
    → chain_from f t v ≡ c
unfolding chain_from
numbered_chain none zero fits = refl
numbered_chain none (suc f) fits = refl
numbered_chain {t} (some {m = m} {kids = kids} {next = next} k s) zero fits =
    absurd (omega (arith, size_node (weight_at t (suc m)) (label_at t (suc m)) kids next))
numbered_chain {t} (some {m = m} {kids = kids} {next = next} k s) (suc f) fits =
    let sum = size_node (weight_at t (suc m)) (label_at t (suc m)) kids next in
    rw (numbered_chain k f (omega (arith, sum)), numbered_chain s f (omega (arith, sum)))

pub sound_tree : {t : List ℕ} → SoundFacts t → Numbered t 0 1 (tree_of t) (node_count t)
unfolding tree_of
sound_tree {t} s =
    let found = walk_numbered (2 * node_count t + 2) t (node_count t) 0 1 s.walks in
    let same : chain_from (node_count t) t 1 ≡ found.0 =
    numbered_chain found.1 (node_count t) (omega (arith, numbered_size found.1)) in
    rw same found.1

ends_at : {t : List ℕ} {m v e e' : ℕ} {c : Chain} → e ≡ e' → Numbered t m v c e → Numbered t m v c e'
ends_at q r = rw q at r

-- the tree of a table is one node with its children
pub record Rooted (t : List ℕ) : Type 0 where
  pub kids : Chain
  pub shape : tree_of t ≡ node (weight_at t 1) (label_at t 1) kids end
  pub below : Numbered t 1 (first_at t 1) kids (node_count t)

pub sound_root : {t : List ℕ} → SoundFacts t → Rooted t
sound_root {t} s =
    let r : NumberedNode t 0 1 (tree_of t) (node_count t) = numbered_some (sound_tree s) (omega arith) in
    let alone = numbered_none r.after s.root_alone in
    record {
      kids = r.kids;
      shape = r.shape ∙ ap (node (weight_at t 1) (label_at t 1) r.kids) alone.0;
      below = ends_at (sym alone.1) r.below;
    }

pub tree_size : {t : List ℕ} → SoundFacts t → size (tree_of t) ≡ node_count t
tree_size s = omega (arith, numbered_size (sound_tree s))

-- ---- What holds of every node

-- P of the weight and the label of each node of a chain
unfoldable pub EachNode : (ℕ → ℕ → Type 0) → Chain → Type 0
EachNode P end = Unit {0}
EachNode P (node w l kids next) = P w l × EachNode P kids × EachNode P next

abbrev pub Between : ℕ → ℕ → (ℕ → Type 0) → Type 0
Between m e P = (u : ℕ) → m < u → u ≤ e → P u

-- the node m + 1, those below it to e₁, and those after them to e₂ are all from m + 1 to e₂
pub between_join : (P : ℕ → Type 0) (m e₁ e₂ : ℕ) → P (suc m) → Between (suc m) e₁ P → Between e₁ e₂ P → Between m e₂ P
between_join P m e₁ e₂ here below after u low high = ⊎_elim (λ e. rw (← e) here) later (eq-or-lt_of_le low)
  where
    later : suc m < u → P u
    later l = ⊎_elim (λ e. below u l (leb-true u e₁ e)) (λ e. after u (leb-false u e₁ e) high) (bool_cases (leb u e₁))

module _ (P : ℕ → ℕ → Type 0) where
  pub numbered_each : {t : List ℕ} {m v e : ℕ} {c : Chain} → Numbered t m v c e
      → Between m e (λ u. P (weight_at t u) (label_at t u))
      → EachNode P c
  unfolding EachNode
  numbered_each none h = tt
  numbered_each (some {m = m} k s) h = (
    h (suc m) (omega arith) (omega (arith, numbered_le k, numbered_le s)),
    numbered_each k (λ u low high. h u (omega arith) (omega (arith, numbered_le s))),
    numbered_each s (λ u low high. h u (omega (arith, numbered_le k)) (omega arith)),
  )

  pub each_numbered : {t : List ℕ} {m v e : ℕ} {c : Chain} → Numbered t m v c e → EachNode P c
      → Between m e (λ u. P (weight_at t u) (label_at t u))
  unfolding EachNode
  each_numbered none h = λ u low high. absurd (omega arith)
  each_numbered {t} (some {m = m} {e₁ = e₁} {e₂ = e₂} k s) h =
      between_join (λ u. P (weight_at t u) (label_at t u)) m e₁ e₂ h.0 (each_numbered k h.1)
      (each_numbered s h.2)

each_within : (K : ℕ) (c : Chain) → EachNode (λ w l. w ≤ K) c → EachWithin K c
unfolding EachNode EachWithin
each_within K end h = tt
each_within K (node w l kids next) h = (h.0, each_within K kids h.1, each_within K next h.2)

pub numbered_within : {t : List ℕ} {m v e : ℕ} {c : Chain} (K : ℕ) → Numbered t m v c e
    → Between m e (λ u. weight_at t u ≤ K)
    → EachWithin K c
numbered_within {c} K r h = each_within K c (numbered_each (λ w l. w ≤ K) r h)

-- no node of an accepted tree outweighs the limit
pub tree_within : {t : List ℕ} → AcceptedFacts t → EachWithin (limit_of t) (tree_of t)
tree_within {t} a = numbered_within (limit_of t) (sound_tree a.sound) (λ u low high. a.light u low high)
