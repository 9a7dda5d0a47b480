-- The two-way tree: a node's sides by what the scratch keeps, its remainder, and the marks that it gives. Assumes
-- nothing.
use Prim.Native.Nat.{ℕ, zero, suc, ◌+◌, ◌-◌, ◌*◌, ◌≤◌, ◌<◌}
use native.Mathlib.Omega.{arith}
use mathlib.Core.Path.{◌≡◌, refl, sym, ◌∙◌, ap}
use mathlib.Core.Bool.{Bool, true, false}
use mathlib.Core.List.{List}
use lib.ListN.{length, set, length-set}
use lib.Dec.{eqb}
use borrow.Author.Tests.{eqb-true, eqb-false}
use Rattle.model.specs.Basics.{pick}
use Rattle.model.specs.Table.{max_limit, node_count, limit_of, first_at, next_at, weight_at, label_at, tree_of}
use Rattle.model.specs.Steps.{remainder, pair_marks}
use Rattle.theory.specs.TableFacts.{SoundFacts, AcceptedFacts}
use Rattle.theory.specs.TableNumbered.{numbered_le}
use Rattle.theory.specs.TableLinks.{first_step, first_le, next_later, next_le, first_one, next_one, first_not_next}
use Rattle.theory.specs.PairShape.{unless_cut, remainder_node, remainder_fits}
use Rattle.theory.specs.TableChain.{chain_at, chain_none, NodeAt, node_at, link_within}
use Rattle.greedy.specs.Kept.{kept, kept_none, kept_same, kept_other}
use Rattle.greedy.specs.PairSides.{left_cut, right_cut, sides_left, sides_right}
use Rattle.greedy.specs.declared.sides.Sides.{Sides}
use Rattle.greedy.specs.PairMarks.{Rests, PairReady, SidesAt, remainder_at, first_cut_at, next_cut_at, uncut_after}
use Rattle.greedy.specs.PairMarks.{LinkMarks, put, length-put, put_same, put_other, laid_below, pair_plan}

remainder_none : (t : List ℕ) → remainder_at t 0 ≡ 0
unfolding remainder
remainder_none t = rw chain_none

module _ {t s : List ℕ} {v : ℕ} (tree : AcceptedFacts t) (ready : PairReady t s v) where
  sound : SoundFacts t
  sound = tree.sound

  at_node : NodeAt t v
  at_node = node_at sound v ready.low ready.high

  link_rest : (l : ℕ) → (1 ≤ l → v < l) → l ≤ node_count t → kept s l ≡ remainder_at t l
  link_rest zero later high = kept_none s ∙ sym (remainder_none t)
  link_rest (suc l) later high = ready.above.rests (suc l) (later (omega arith)) high

  pub first_node : (f : ℕ) → f ≡ first_at t v → f ≤ node_count t
  first_node f e = omega (arith, first_le sound v ready.low ready.high)

  pub next_node : (f : ℕ) → f ≡ next_at t v → f ≤ node_count t
  next_node f e = omega (arith, next_le sound v ready.low ready.high)

  pub first_rest : (f k : ℕ) → f ≡ first_at t v → k ≡ kept s f → k ≡ remainder_at t (first_at t v)
  first_rest f k e q =
      q ∙ ap (kept s) e
      ∙ link_rest (first_at t v) (λ l. omega (arith, first_step sound v ready.low ready.high l))
      (first_le sound v ready.low ready.high)

  pub next_rest : (f k : ℕ) → f ≡ next_at t v → k ≡ kept s f → k ≡ remainder_at t (next_at t v)
  next_rest f k e q =
      q ∙ ap (kept s) e
      ∙ link_rest (next_at t v) (λ l. next_later sound v ready.low ready.high l)
      (next_le sound v ready.low ready.high)

  light : weight_at t v ≤ limit_of t
  light = tree.light v ready.low ready.high

  first_within : remainder_at t (first_at t v) ≤ limit_of t
  first_within =
      remainder_fits (limit_of t) (chain_at t (first_at t v))
      (link_within tree at_node.below (omega (arith, numbered_le at_node.after, at_node.inside)))

  next_within : remainder_at t (next_at t v) ≤ limit_of t
  next_within =
      remainder_fits (limit_of t) (chain_at t (next_at t v))
      (link_within tree at_node.after at_node.inside)

  pub sides_fit : weight_at t v + remainder_at t (first_at t v) + remainder_at t (next_at t v) ≤ 3 * max_limit
  sides_fit = omega (arith, light, first_within, next_within, tree.sound.limit_high)

  module _ {x : Sides} (at : SidesAt t v x) where
    pub first_is : left_cut x.limit x.weight x.left x.right ≡ first_cut_at t v
    unfolding first_cut_at
    first_is =
        rw (at.limit, at.weight, at.left, at.right)
        (sym (sides_left (limit_of t) (weight_at t v) (remainder_at t (first_at t v)) (remainder_at t (next_at t v)) light))

    pub next_is : right_cut x.limit x.weight x.left x.right ≡ next_cut_at t v
    unfolding next_cut_at
    next_is =
        rw (at.limit, at.weight, at.left, at.right)
        (sym (sides_right (limit_of t) (weight_at t v) (remainder_at t (first_at t v)) (remainder_at t (next_at t v)) light))

    -- the node's remainder, from what is left of its sides
    pub weighs : x.weight + unless_cut (left_cut x.limit x.weight x.left x.right) x.left
        + unless_cut (right_cut x.limit x.weight x.left x.right) x.right ≡ remainder_at t v
    unfolding first_cut_at next_cut_at
    weighs =
        let n =
        remainder_node (limit_of t) (weight_at t v) (chain_at t (first_at t v)) (chain_at t (next_at t v))
        (label_at t v) in
        rw (first_is, next_is, at.weight, at.left, at.right, at_node.shape) (omega (arith, n))

  pub rests_step : (r : ℕ) → r ≡ remainder_at t v → node_count t ≤ length s → Rests t (set s (v - 1) r) (v - 1)
  rests_step r e long = record { rests = λ u low high. go u low high (eqb u v) refl }
    where
      go : (u : ℕ) → v - 1 < u → u ≤ node_count t → (b : Bool) → eqb u v ≡ b → kept (set s (v - 1) r) u ≡ remainder_at t u
      go u low high true q =
          let same : u ≡ v = eqb-true u v q in
          rw same (kept_same s v r ready.low (omega (arith, ready.high, long)) ∙ e)
      go u low high false q =
          let other : u ≡ v → ⊥ = eqb-false u v q in
          kept_other s v u r ready.low other ∙ ready.above.rests u (omega (arith, ready.low)) high

-- where all remainders are kept, those after a node are
pub rests_after : {t s : List ℕ} (v : ℕ) → Rests t s 0 → 1 ≤ v → v ≤ node_count t → PairReady t s v
rests_after v r low high =
    record { above = record { rests = λ u l h. r.rests u (omega arith) h }; low = low; high = high }

-- ---- Marks

pub below_is : (t a : List ℕ) (v f n x y : ℕ) → f ≡ first_at t v → n ≡ next_at t v → x ≡ pick (first_cut_at t v) 1 0
    → y ≡ pick (next_cut_at t v) 1 (uncut_after (kept a v)) → put (put a f x) n y ≡ laid_below t a v
unfolding laid_below
below_is t a v f n x y ef en ex ey = rw (ef, en, ex, ey)

module _ {t : List ℕ} (good : SoundFacts t) (a : List ℕ) (v : ℕ) (low : 1 ≤ v) (high : v ≤ node_count t) where
  laid_other : (u : ℕ) → (u ≡ first_at t v → ⊥) → (u ≡ next_at t v → ⊥) → kept (laid_below t a v) u ≡ kept a u
  unfolding laid_below
  laid_other u p q = put_other _ (next_at t v) u _ q ∙ put_other a (first_at t v) u _ p

  laid_self : (u : ℕ) → 1 ≤ u → u ≤ v → kept (laid_below t a v) u ≡ kept a u
  laid_self u l h =
      laid_other u (λ q. omega (arith, first_step good v low high (omega arith)))
      (λ q. omega (arith, next_later good v low high (omega arith)))

  laid_root : kept (laid_below t a v) 1 ≡ kept a 1
  laid_root = laid_self 1 (omega arith) low

  laid_here : node_count t ≤ length a → LinkMarks t (laid_below t a v) v
  unfolding laid_below
  laid_here long =
      record {
        first = λ l.
            put_other _ (next_at t v) (first_at t v) _ (first_not_next good v v low high low high l)
            ∙ put_same a (first_at t v) (pick (first_cut_at t v) 1 0) l (omega (arith, first_le good v low high));
        next = λ l.
            put_same (put a (first_at t v) (pick (first_cut_at t v) 1 0)) (next_at t v)
            (pick (next_cut_at t v) 1 (uncut_after (kept a v))) l
            (omega (arith, length-put a (first_at t v) (pick (first_cut_at t v) 1 0), next_le good v low high))
            ∙ ap (λ (k : ℕ). pick (next_cut_at t v) 1 (uncut_after k)) (sym (laid_self v low (omega arith)));
      }

  laid_before : (u : ℕ) → 1 ≤ u → u < v → LinkMarks t a u → LinkMarks t (laid_below t a v) u
  laid_before u l h x =
      record {
        first = λ p.
            laid_other (first_at t u)
            (λ q. omega (arith, first_one good u v l (omega arith) low high p q))
            (λ q. first_not_next good u v l (omega arith) low high p q)
            ∙ x.first p;
        next = λ p.
            laid_other (next_at t u)
            (λ q. first_not_next good v u low high l (omega arith) (omega arith) (sym q))
            (λ q. omega (arith, next_one good u v l (omega arith) low high p q))
            ∙ x.next p
            ∙ ap (λ (k : ℕ). pick (next_cut_at t u) 1 (uncut_after k)) (sym (laid_self u l (omega arith)));
      }

-- what is laid of the marks when the nodes before v have given theirs
pub record LinksMarked (t a : List ℕ) (v : ℕ) : Type 0 where
  pub long : length a ≡ node_count t
  pub root : kept a 1 ≡ 1
  pub links : (u : ℕ) → 1 ≤ u → u < v → LinkMarks t a u

pub links_start : (t a : List ℕ) → length a ≡ node_count t → 1 ≤ node_count t → LinksMarked t (set a 0 1) 1
links_start t a long some =
    record {
      long = simp length-set long;
      root = kept_same a 1 1 (omega arith) (omega arith);
      links = λ u low high. absurd (omega arith);
    }

pub links_step : {t a : List ℕ} {v : ℕ} (a' : List ℕ) → SoundFacts t → LinksMarked t a v → 1 ≤ v → v ≤ node_count t
    → a' ≡ laid_below t a v → LinksMarked t a' (v + 1)
unfolding laid_below
links_step {t} {a} {v} a' good x low high e =
    rw e
    (record {
      long = length-put _ (next_at t v) _ ∙ length-put a (first_at t v) _ ∙ x.long;
      root = laid_root good a v low high ∙ x.root;
      links = λ u one top. go u one top (eqb u v) refl;
    })
  where
    go : (u : ℕ) → 1 ≤ u → u < v + 1 → (b : Bool) → eqb u v ≡ b → LinkMarks t (laid_below t a v) u
    go u one top true q =
        let same : u ≡ v = eqb-true u v q in
        rw same (laid_here good a v low high (omega (arith, x.long)))
    go u one top false q =
        let other : u ≡ v → ⊥ = eqb-false u v q in
        laid_before good a v low high u one (omega arith) (x.links u one (omega arith))

pub links_end : {t a : List ℕ} {v : ℕ} → SoundFacts t → LinksMarked t a v → node_count t < v
    → a ≡ pair_marks (limit_of t) (tree_of t)
links_end {t} {a} good x all = pair_plan a good x.long x.root (λ u low high. x.links u (omega arith) (omega arith))
