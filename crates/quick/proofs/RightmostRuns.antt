-- The children of a node are cut from the last one back, one a turn: what the marks from a child on are, by whether a
-- run has taken it, and what is reached at the end.
-- Defines marks_on, Cutting. Proves marks_turn, cutting_start, cutting_turn, cutting_end. Assumes nothing.
use Prim.Native.Nat.{ℕ, zero, suc, ◌+◌, ◌-◌, ◌*◌, ◌≤◌, ◌<◌}
use native.Mathlib.Omega.{arith}
use native.Mathlib.Nat.{eq-zero-or-pos}
use mathlib.Core.Path.{◌≡◌, refl, sym, ◌∙◌, ap, ap₂}
use mathlib.Core.Bool.{Bool, true, false, not, ◌&&◌, ◌||◌}
use mathlib.Core.Logic.{◌⊎◌, inl, inr, ⊎_elim}
use mathlib.Core.List.{List, [], ◌∷◌}
use lib.ListN.{length, get_or, set, length-set}
use lib.Seq.{get_or-set_same, get_or-set_other}
use lib.Dec.{eqb, ltb, leb}
use borrow.Author.Tests.{ne_eqb, ltb-true, ltb-false, leb-true, le-leb, lt-leb}
use Rattle.std.specs.Prelude.{is_some}
use Rattle.std.specs.Bool.{then_some}
use Rattle.std.specs.Option.{unwrap_or}
use Rattle.std.specs.declared.option.Option.{Option}
use Rattle.std.specs.declared.option.Option.TheVariants.{Some, None}
use Rattle.model.specs.Basics.{pick}
use Rattle.model.specs.Table.{slots, node_count, limit_of, weight_at, first_at, next_at}
use Rattle.model.specs.Plan.{prev_at, parent_at, stays, mark_at}
use Rattle.model.specs.Steps.{total, while_over, cut_runs, run_left, stayed, right_rest}
use Rattle.theory.specs.Bools.{both_true}
use Rattle.theory.specs.TableFacts.{AcceptedFacts}
use Rattle.theory.specs.PlanShape.{AllWithin}
use Rattle.theory.specs.TableLinks.{prev_at_less, first_le, next_le}
use Rattle.theory.specs.SiblingsBack.{back_from, list_back, ChildOrNone, prev_child, child_high}
use Rattle.theory.specs.LaidByNumber.{siblings_back, siblings_back_none, siblings_back_cons}
use Rattle.theory.specs.RightmostShape.{right_fits}
use Rattle.quick.specs.Rightmost.{run_mark, rest_in, rests_in, CutReady, CutDone}

none_some : {r : ℕ} → None ≡ Some r → ⊥
none_some e = cc

then_some_is : (b : Bool) (x r : ℕ) → then_some b x ≡ Some r → (b ≡ true) × (x ≡ r)
then_some_is true x r e = (refl, cc)
then_some_is false x r e = absurd (none_some e)

-- a node's links have places in an array
pub first_slot : {t : List ℕ} → AcceptedFacts t → (v : ℕ) → 1 ≤ v → v ≤ node_count t → first_at t v < slots
first_slot a v low high = omega (arith, first_le a.sound v low high, a.sound.count_high)

pub next_slot : {t : List ℕ} → AcceptedFacts t → (v : ℕ) → 1 ≤ v → v ≤ node_count t → next_at t v < slots
next_slot a v low high = omega (arith, next_le a.sound v low high, a.sound.count_high)

-- ---- The marks from a child on

-- of the children rs, the last first, where a run has taken the last of them, and weighs so much with it, or not
unfoldable pub marks_on : ℕ → ℕ → Option ℕ → List ℕ → List ℕ
marks_on K w None rs = cut_runs K w rs
marks_on K w (Some run) [] = []
marks_on K w (Some run) (r ∷ rs) = run_left K w run rs

marks_none : (K w : ℕ) (run : Option ℕ) → marks_on K w run [] ≡ []
unfolding marks_on cut_runs
marks_none K w (Some run) = refl
marks_none K w None = refl

-- the remainder of the child before, if there is one
head_or : ℕ → List ℕ → ℕ
head_or x [] = x
head_or x (r ∷ rs) = r

any_left : List ℕ → Bool
any_left [] = false
any_left (r ∷ rs) = true

module _ (K w : ℕ) where
  -- a child that is in a run of this weight
  run_turn : (run x : ℕ) (rs : List ℕ) (goes : Bool) → goes ≡ (any_left rs && leb (run + head_or x rs) K)
      → run_left K w run rs ≡ run_mark true goes ∷ marks_on K w (then_some goes (run + head_or x rs)) rs
  unfolding run_left cut_runs marks_on run_mark pick any_left head_or
  run_turn run x [] goes e = rw e
  run_turn run x (r ∷ rs) goes e = by goes (leb (run + r) K) refl e
    where
      by : (g b : Bool) → leb (run + r) K ≡ b → g ≡ leb (run + r) K
          → run_left K w run (r ∷ rs) ≡ run_mark true g ∷ marks_on K w (then_some g (run + r)) (r ∷ rs)
      by g true q p = rw (p, q)
      by g false q p = rw (p, q)

  module _ (cut some goes : Bool) (weighs x : ℕ) (rs : List ℕ) (some_is : some ≡ any_left rs)
      (goes-is : goes ≡ ((cut && some) && leb weighs K)) where
    cut_turn : (own : ℕ) → cut ≡ true → weighs ≡ own + head_or x rs
        → run_left K w own rs ≡ run_mark cut goes ∷ marks_on K w (then_some goes weighs) rs
    cut_turn own c e =
        let g : ((cut && some) && leb weighs K) ≡ (any_left rs && leb (own + head_or x rs) K) = rw (c, some_is, e) in
        rw (c, e) (run_turn own x rs goes (goes-is ∙ g))

    stay_turn : cut ≡ false → stays ∷ cut_runs K w rs ≡ run_mark cut goes ∷ marks_on K w (then_some goes weighs) rs
    unfolding run_mark marks_on pick
    stay_turn c =
        let g : ((cut && some) && leb weighs K) ≡ false = rw c in
        rw (goes-is, g, c)

    -- a child and those before it: whether it is cut, and whether its run goes on
    marks_turn : (run : Option ℕ) (left r : ℕ) → left ≡ w + total (r ∷ rs) → cut ≡ (is_some run || ltb K left)
        → weighs ≡ unwrap_or run r + head_or x rs
        → marks_on K w run (r ∷ rs) ≡ run_mark cut goes ∷ marks_on K w (then_some goes weighs) rs
    unfolding marks_on pick cut_runs while_over
    marks_turn (Some run) left r l c e = cut_turn run c e
    marks_turn None left r l c e = by (ltb K left) refl
      where
        by : (b : Bool) → ltb K left ≡ b
            → pick (leb (w + total (r ∷ rs)) K) (stays ∷ cut_runs K w rs) (run_left K w r rs)
            ≡ run_mark cut goes ∷ marks_on K w (then_some goes weighs) rs
        by true q = rw (lt-leb (w + total (r ∷ rs)) K (omega (arith, ltb-true K left q))) (cut_turn r (c ∙ q) e)
        by false q = rw (le-leb (w + total (r ∷ rs)) K (omega (arith, ltb-false K left q))) (stay_turn (c ∙ q))

-- what stays of a child and those before it
stayed_turn : (cut goes : Bool) (r : ℕ) (rs ms : List ℕ)
    → stayed (r ∷ rs) (run_mark cut goes ∷ ms) ≡ pick cut 0 r + stayed rs ms
unfolding stayed run_mark pick
stayed_turn true true r rs ms = refl
stayed_turn true false r rs ms = refl
stayed_turn false goes r rs ms = refl

-- ---- One child a turn

-- a mark stored for node v
pub mark_same : (m : List ℕ) (v x : ℕ) → 1 ≤ v → v ≤ length m → mark_at (set m (v - 1) x) v ≡ x
unfolding mark_at
mark_same m v x low high = get_or-set_same m (v - 1) x 0 (omega arith)

pub mark_other : (m : List ℕ) (v u x : ℕ) → 1 ≤ v → 1 ≤ u → (u ≡ v → ⊥) → mark_at (set m (v - 1) x) u ≡ mark_at m u
unfolding mark_at
mark_other m v u x low one other = get_or-set_other m (v - 1) (u - 1) x 0 (λ e. other (omega arith))

-- The children after `child` have their marks. The marks of the others, laid as the steps go on from here, make up the
-- marks of all; so does what stays of them with what is kept so far.
pub record Cutting (t rests entry : List ℕ) (v last : ℕ) (marks : List ℕ) (kept left : ℕ) (run : Option ℕ)
    (child : ℕ) : Type 0 where
  pub child_is : ChildOrNone t v child
  pub long : length marks ≡ node_count t
  pub left_is : left ≡ weight_at t v + total (rests_in t rests child)
  pub run_light : (r : ℕ) → run ≡ Some r → r ≤ limit_of t
  pub kept_is : kept
      + stayed (rests_in t rests child) (marks_on (limit_of t) (weight_at t v) run (rests_in t rests child))
      ≡ right_rest (limit_of t) (weight_at t v) (rests_in t rests last)
  pub goes_on : (m : List ℕ) → ((u : ℕ) → child < u → mark_at m u ≡ mark_at marks u)
      → siblings_back t (mark_at m) child ≡ marks_on (limit_of t) (weight_at t v) run (rests_in t rests child)
      → siblings_back t (mark_at m) last ≡ cut_runs (limit_of t) (weight_at t v) (rests_in t rests last)
  pub others : (u : ℕ) → 1 ≤ u → (parent_at t u ≡ v → ⊥) → mark_at marks u ≡ mark_at entry u

-- remainders of an array that are within K
rests_light : (K : ℕ) (t rests : List ℕ) → ((u : ℕ) → rest_in rests u ≤ K) → (f u : ℕ)
    → AllWithin K (back_from f (rest_in rests) (prev_at t) u)
unfolding back_from AllWithin
rests_light K t rests h zero u = tt
rests_light K t rests h (suc f) zero = tt
rests_light K t rests h (suc f) (suc u) = (h (suc u), rests_light K t rests h f (prev_at t (suc u)))

module _ {t prevs rests entry : List ℕ} {v last sum : ℕ} (tree : AcceptedFacts t)
    (ready : CutReady t prevs rests entry v last sum) where
  abbrev K : ℕ
  K = limit_of t

  abbrev w : ℕ
  w = weight_at t v

  pub light : w ≤ K
  light = tree.light v ready.low ready.high

  rest_high : right_rest K w (rests_in t rests last) ≤ K
  unfolding siblings_back list_back
  rest_high = right_fits K w (rests_in t rests last) light (rests_light K t rests ready.light last last)

  pub cutting_start : (left : ℕ) → left ≡ w + sum → Cutting t rests entry v last entry w left None last
  unfolding marks_on right_rest
  cutting_start left e =
      record {
        child_is = ready.last_child;
        long = ready.long;
        left_is = omega (arith, e, ready.sum_is);
        run_light = λ r q. absurd (none_some q);
        kept_is = refl;
        goes_on = λ m same q. q;
        others = λ u low other. refl;
      }

  module _ {marks : List ℕ} {kept left child : ℕ} {run : Option ℕ}
      (c : Cutting t rests entry v last marks kept left run child) where
    pub kept_high : kept ≤ K
    kept_high = omega (arith, c.kept_is, rest_high)

    pub kept_fits : kept + rest_in rests child ≤ 2 * K
    kept_fits = omega (arith, kept_high, ready.light child)

    pub child_fits : child ≤ node_count t
    child_fits = child_high t v child c.child_is

    pub cutting_end : child ≡ 0 → CutDone t rests v last entry marks kept
    unfolding stayed
    cutting_end z =
        let none : rests_in t rests child ≡ [] = rw z (siblings_back_none t (rest_in rests)) in
        let marked : siblings_back t (mark_at marks) child ≡ [] = rw z (siblings_back_none t (mark_at marks)) in
        record {
          cut = c.goes_on marks (λ u h. refl) (marked ∙ rw none (sym (marks_none K w run)));
          rest = omega (arith, rw none at c.kept_is);
          others = c.others;
        }

    -- the turn of a child
    module _ (some : (child ≡ 0 → ⊥)) (before rest : ℕ) (before-is : before ≡ get_or prevs child 0)
        (rest_is : rest ≡ rest_in rests child) where
      one : 1 ≤ child
      one = omega arith

      parent : parent_at t child ≡ v
      parent = ⊎_elim (λ e. absurd (some e)) (λ q. q.2) c.child_is

      prev : before ≡ prev_at t child
      prev = before-is ∙ ready.linked.before child one child_fits

      pub earlier : before < child
      earlier = omega (arith, prev, prev_at_less t child one)

      list : rests_in t rests child ≡ rest ∷ rests_in t rests before
      list =
          siblings_back_cons t (rest_in rests) child one
          ∙ ap₂ (λ r u. r ∷ rests_in t rests u) (sym rest_is) (sym prev)

      pub rest_left : rest ≤ left
      unfolding total
      rest_left = omega (arith, rw list at c.left_is)

      head_is : head_or (rest_in rests before) (rests_in t rests before) ≡ rest_in rests before
      unfolding head_or
      head_is = by (eq-zero-or-pos before)
        where
          by : (before ≡ 0) ⊎ (1 ≤ before)
              → head_or (rest_in rests before) (rests_in t rests before) ≡ rest_in rests before
          by (inl z) = rw z (rw (siblings_back_none t (rest_in rests)) refl)
          by (inr low) = rw (siblings_back_cons t (rest_in rests) before low) refl

      some_is : not (eqb before 0) ≡ any_left (rests_in t rests before)
      unfolding any_left
      some_is = by (eq-zero-or-pos before)
        where
          by : (before ≡ 0) ⊎ (1 ≤ before) → not (eqb before 0) ≡ any_left (rests_in t rests before)
          by (inl z) = rw z (rw (siblings_back_none t (rest_in rests)) refl)
          by (inr low) =
              rw (ne_eqb before 0 (λ z. omega arith), siblings_back_cons t (rest_in rests) before low) refl

      module _ (limit : ℕ) (cut goes : Bool) (weighs : ℕ) (marks' : List ℕ) (kept' : ℕ) (limit_is : limit ≡ K)
          (cut_is : cut ≡ (is_some run || ltb limit left)) (weighs_is : weighs ≡ unwrap_or run rest + rest_in rests before)
          (goes-is : goes ≡ ((cut && not (eqb before 0)) && leb weighs limit))
          (written : (marks' ≡ set marks (child - 1) (run_mark cut goes)) × (kept' ≡ kept + pick cut 0 rest)) where
        abbrev mark : ℕ
        mark = run_mark cut goes

        goes_within : goes ≡ ((cut && not (eqb before 0)) && leb weighs K)
        goes_within = goes-is ∙ ap (λ k. (cut && not (eqb before 0)) && leb weighs k) limit_is

        turn : marks_on K w run (rest ∷ rests_in t rests before)
            ≡ run_mark cut goes ∷ marks_on K w (then_some goes weighs) (rests_in t rests before)
        turn =
            marks_turn K w cut (not (eqb before 0)) goes weighs (rest_in rests before) (rests_in t rests before) some_is
            goes_within run left rest (c.left_is ∙ rw list) (cut_is ∙ ap (λ k. is_some run || ltb k left) limit_is)
            (weighs_is ∙ ap (λ k. unwrap_or run rest + k) (sym head_is))

        here : mark_at (set marks (child - 1) mark) child ≡ mark
        here = mark_same marks child mark one (omega (arith, child_fits, c.long))

        pub cutting_turn : Cutting t rests entry v last marks' kept' (left - rest) (then_some goes weighs) before
        unfolding total
        cutting_turn =
            rw (written.0, written.1)
            record {
              child_is = rw prev (prev_child t v child one child_fits parent);
              long = simp length-set c.long;
              left_is = omega (arith, rw list at c.left_is);
              run_light = λ r e.
                  let some = then_some_is goes weighs r e in
                  omega (
                    arith,
                    some.1,
                    leb-true weighs K (both_true (cut && not (eqb before 0)) (leb weighs K) (sym goes_within ∙ some.0)).1,
                  );
              kept_is =
                  omega (
                    arith,
                    rw (list, turn) at c.kept_is,
                    stayed_turn cut goes rest (rests_in t rests before)
                        (marks_on K w (then_some goes weighs) (rests_in t rests before)),
                  );
              goes_on = λ m same e.
                  c.goes_on m
                  (λ u h. same u (omega (arith, earlier)) ∙ mark_other marks child u mark one (omega arith)
                  (λ q. omega arith))
                  (siblings_back_cons t (mark_at m) child one
                  ∙ ap₂ (λ k ms. k ∷ ms) (same child earlier ∙ here)
                  (ap (siblings_back t (mark_at m)) (sym prev) ∙ e)
                  ∙ sym turn
                  ∙ rw list);
              others = λ u low other.
                  mark_other marks child u mark one low (λ q. other (ap (parent_at t) q ∙ parent)) ∙ c.others u low other;
            }
