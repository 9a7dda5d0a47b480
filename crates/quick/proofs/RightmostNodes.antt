-- The nodes are settled from the last to the first: what is kept of a node's children, what a node adds to it, and the
-- plan when all are settled.
-- Proves last_kid_lem, settle_cuts, sum_fits, settled_start, settled_node, settled_plan. Assumes nothing.
use Prim.Native.Nat.{ℕ, zero, suc, ◌+◌, ◌-◌, ◌*◌, ◌≤◌, ◌<◌}
use native.Mathlib.Omega.{arith}
use mathlib.Core.Path.{◌≡◌, refl, sym, ◌∙◌, ap}
use mathlib.Core.Logic.{inl, inr, ⊎_elim}
use mathlib.Core.List.{List, [], ◌∷◌, reverse}
use lib.ListN.{length, get_or, set, replicate, length-set, length-replicate}
use lib.Seq.{get_or-set_same, get_or-set_other}
use lib.Dec.{eqb}
use borrow.Author.Tests.{eqb-true, eqb-false, ne_eqb}
use Rattle.model.specs.Basics.{pick}
use Rattle.model.specs.Table.{max_limit, slots, node_count, limit_of, weight_at, first_at, next_at, tree_of}
use Rattle.model.specs.Plan.{prev_at, parent_at, mark_at}
use Rattle.model.specs.Steps.{siblings_by, total, cut_runs, right_rest, right_rests, lay_rightmost, rightmost_marks}
use Rattle.theory.specs.Bools.{bool_cases}
use Rattle.theory.specs.Lists.{zeros}
use Rattle.theory.specs.TableFacts.{SoundFacts, AcceptedFacts}
use Rattle.theory.specs.TableNumbered.{numbered_le}
use Rattle.theory.specs.TableLinks.{prev_at_less, parent_at_less, parent_at_one, first_step, first_le, first_prev}
use Rattle.theory.specs.TableLinks.{first_parent, next_later, next_le, next_prev, next_parent}
use Rattle.theory.specs.TableChain.{chain_at, chain_none, node_at, link_within}
use Rattle.theory.specs.SiblingsBack.{back_from, list_back, ChildOrNone, child_high, SiblingsLinked, after_at}
use Rattle.theory.specs.LaidByNumber.{siblings_back, siblings_back_none, siblings_back_cons, siblings_back_same}
use Rattle.theory.specs.LaidByNumber.{back_along, ChildrenLaid, marks_laid}
use Rattle.theory.specs.RightmostShape.{right_fits, kids_within}
use Rattle.quick.specs.Rightmost.{kid_rests, rest_at, rests_to, rest_in, rests_in, most_sum, CutReady, CutDone, Tail}
use Rattle.quick.specs.Rightmost.{last_kid, Settled}
use Rattle.quick.specs.declared.rightmost.Siblings.{Siblings}
use Rattle.quick.proofs.RightmostRuns.{mark_same, mark_other}

-- the last child of a node, by its first
pub last_kid_lem : (t lasts : List ℕ) (f last m : ℕ) → f ≡ first_at t m → last ≡ get_or lasts f 0
    → last ≡ last_kid t lasts m
last_kid_lem t lasts f last m f-is last_is = rw f-is at last_is

-- ---- Remainders and their sums

rest_light : {t : List ℕ} → AcceptedFacts t → (u : ℕ) → 1 ≤ u → u ≤ node_count t → rest_at t u ≤ limit_of t
unfolding rest_at
rest_light {t} a u low high =
    let n = node_at a.sound u low high in
    right_fits (limit_of t) (weight_at t u) (kid_rests t u) (a.light u low high)
    (kids_within (limit_of t) (chain_at t (first_at t u))
    (link_within a n.below (omega (arith, numbered_le n.after, n.inside))))

-- each sibling up to node u is one of u numbers
total_small : (t : List ℕ) (x : ℕ → ℕ) (n : ℕ) → ((u : ℕ) → 1 ≤ u → u ≤ n → x u ≤ max_limit) → (f u : ℕ) → u ≤ n
    → total (back_from f x (prev_at t) u) ≤ max_limit * u
unfolding back_from total
total_small t x n h zero u high = omega arith
total_small t x n h (suc f) zero high = omega arith
total_small t x n h (suc f) (suc u) high =
    let less : prev_at t (suc u) < suc u = prev_at_less t (suc u) (omega arith) in
    omega (arith, h (suc u) (omega arith) high, total_small t x n h f (prev_at t (suc u)) (omega arith))

sum_small : {t : List ℕ} → AcceptedFacts t → (u : ℕ) → u ≤ node_count t → total (rests_to t u) ≤ most_sum
unfolding siblings_back list_back
sum_small {t} a u high =
    omega (
      arith,
      total_small t (rest_at t) (node_count t)
          (λ x low top. omega (arith, rest_light a x low top, a.sound.limit_high)) u u high,
      a.sound.count_high,
    )

-- ---- The children of a node

-- the last child of node v, the remainders of all its children, and their sum
record Kids (t : List ℕ) (v last sum : ℕ) : Type 0 where
  child : ChildOrNone t v last
  link : after_at t v last ≡ 0
  list : kid_rests t v ≡ rests_to t last
  sum_is : total (rests_to t last) ≡ sum

module _ {t marks : List ℕ} {nodes : Siblings} {m : ℕ} (tree : AcceptedFacts t) (s : Settled t nodes marks m) where
  abbrev sound : SoundFacts t
  sound = tree.sound

  abbrev rests : List ℕ
  rests = nodes.rests

  abbrev sums : List ℕ
  sums = nodes.sums

  abbrev lasts : List ℕ
  lasts = nodes.lasts

  kids_of_lem : (v : ℕ) → m ≤ v → 1 ≤ v → v ≤ node_count t → Kids t v (last_kid t lasts v) (get_or sums (first_at t v) 0)
  unfolding right_rests siblings_by total pick
  kids_of_lem v after low high = by (first_at t v) refl
    where
      by : (f : ℕ) → first_at t v ≡ f → Kids t v (last_kid t lasts v) (get_or sums (first_at t v) 0)
      by zero e =
          let last : get_or lasts (first_at t v) 0 ≡ 0 = rw e s.no_last in
          let sum : get_or sums (first_at t v) 0 ≡ 0 = rw e s.no_sum in
          let none : rests_to t (get_or lasts (first_at t v) 0) ≡ [] = rw last (siblings_back_none t (rest_at t)) in
          record {
            child = inl last;
            link = rw last e;
            list = ap (λ u. right_rests (limit_of t) (chain_at t u)) e ∙ ap (right_rests (limit_of t)) (chain_none t)
                ∙ sym none;
            sum_is = ap total none ∙ sym sum;
          }
      by (suc f) e =
          let one : 1 ≤ first_at t v = omega arith in
          let x =
          s.tails (first_at t v) (omega (arith, first_step sound v low high one)) (first_le sound v low high) in
          let none : rests_to t (prev_at t (first_at t v)) ≡ [] =
          rw (first_prev sound v (first_at t v) low high one refl) (siblings_back_none t (rest_at t)) in
          record {
            child = inr (x.low, x.high, x.parent ∙ first_parent sound v (first_at t v) low high one refl);
            link = rw (ne_eqb (get_or lasts (first_at t v) 0) 0 (λ z. omega (arith, x.low))) x.link;
            list = ap (siblings_by (right_rest (limit_of t)) (chain_at t (first_at t v))) (sym none) ∙ x.list;
            sum_is = omega (arith, rw none at x.sums);
          }

  module _ (low : 1 ≤ m) (high : m ≤ node_count t) where
    kids : Kids t m (last_kid t lasts m) (get_or sums (first_at t m) 0)
    kids = kids_of_lem m (omega arith) low high

    -- the array has the children's remainders
    rests_same : rests_in t rests (last_kid t lasts m) ≡ rests_to t (last_kid t lasts m)
    rests_same =
        siblings_back_same t (rest_in rests) (rest_at t) m
        (λ u one top e. s.rests_are u (omega (arith, parent_at_less t u one)) top) (last_kid t lasts m) kids.child

    -- what the cuts of its children ask
    pub settle_cuts : CutReady t nodes.before.now rests marks m (last_kid t lasts m) (get_or sums (first_at t m) 0)
    settle_cuts =
        record {
          linked = s.linked;
          low = low;
          high = high;
          long = s.long;
          light = s.light;
          last_child = kids.child;
          sum_is = sym kids.sum_is ∙ ap total (sym rests_same);
          small = omega (
            arith,
            kids.sum_is,
            sum_small tree (last_kid t lasts m) (child_high t m (last_kid t lasts m) kids.child),
          );
        }

    module _ {marks' : List ℕ} (rest : ℕ) (d : CutDone t rests m (last_kid t lasts m) marks marks' rest) where
      rests_are : rests_in t rests (last_kid t lasts m) ≡ kid_rests t m
      rests_are = rests_same ∙ sym kids.list

      -- the node's remainder, and its children's marks
      pub rest_is : rest ≡ rest_at t m
      unfolding rest_at
      rest_is = d.rest ∙ ap (right_rest (limit_of t) (weight_at t m)) rests_are

      cuts_here : siblings_back t (mark_at marks') (last_kid t lasts m)
          ≡ cut_runs (limit_of t) (weight_at t m) (kid_rests t m)
      cuts_here =
          d.cut ∙ ap (cut_runs (limit_of t) (weight_at t m)) rests_are

      -- the node and the siblings after it
      list_step : siblings_by (right_rest (limit_of t)) (chain_at t m) (rests_to t (prev_at t m))
          ≡ siblings_by (right_rest (limit_of t)) (chain_at t (next_at t m)) (rests_to t m)
      unfolding siblings_by rest_at right_rests
      list_step =
          ap (λ c. siblings_by (right_rest (limit_of t)) c (rests_to t (prev_at t m))) (node_at sound m low high).shape
          ∙ ap (siblings_by (right_rest (limit_of t)) (chain_at t (next_at t m)))
          (sym (siblings_back_cons t (rest_at t) m low))

      total_step : total (rests_to t m) ≡ total (rests_to t (prev_at t m)) + rest
      unfolding total
      total_step = omega (arith, ap total (siblings_back_cons t (rest_at t) m low), rest_is)

      tail_here : (next : ℕ) → next ≡ next_at t m
          → Tail t m (pick (eqb next 0) m (get_or lasts next 0)) (rest + get_or sums next 0)
      unfolding pick siblings_by
      tail_here zero e =
          record {
            low = low;
            high = high;
            parent = refl;
            link = sym e;
            list = list_step ∙ ap (λ u. siblings_by (right_rest (limit_of t)) (chain_at t u) (rests_to t m)) (sym e)
                ∙ ap (λ c. siblings_by (right_rest (limit_of t)) c (rests_to t m)) (chain_none t);
            sums = omega (arith, total_step, s.no_sum);
          }
      tail_here (suc n) e =
          let x = s.tails (suc n) (omega (arith, e, next_later sound m low high (omega arith)))
          (omega (arith, e, next_le sound m low high)) in
          let prev : prev_at t (suc n) ≡ m = next_prev sound m (suc n) low high (omega arith) (sym e) in
          rw (ne_eqb (suc n) 0 (λ z. omega arith))
          record {
            low = x.low;
            high = x.high;
            parent = x.parent ∙ next_parent sound m (suc n) low high (omega arith) (sym e);
            link = x.link;
            list = list_step ∙ ap (λ u. siblings_by (right_rest (limit_of t)) (chain_at t u) (rests_to t m)) (sym e)
                ∙ rw prev at x.list;
            sums = omega (arith, total_step, rw prev at x.sums);
          }

      pub sum_fits : (next : ℕ) → next ≡ next_at t m → rest + get_or sums next 0 ≤ most_sum
      sum_fits next e =
          let x = tail_here next e in
          omega (arith, x.sums, sum_small tree (pick (eqb next 0) m (get_or lasts next 0)) x.high)

      -- the node joins those that are settled
      module _ (next last' : ℕ) (next_is : next ≡ next_at t m)
          (last_here : last' ≡ pick (eqb next 0) m (get_or lasts next 0)) where
        abbrev sum' : ℕ
        sum' = rest + get_or sums next 0

        -- what holds of it, and of each other node, holds of all after the one before it
        each : (P : ℕ → Type 0) → P m → ((u : ℕ) → (u ≡ m → ⊥) → m < u → u ≤ node_count t → P u)
            → (u : ℕ) → m - 1 < u → u ≤ node_count t → P u
        each P here there u more top =
            ⊎_elim (λ b. rw (eqb-true u m b) here)
            (λ b. let other = eqb-false u m b in there u other (omega arith) top) (bool_cases (eqb u m))

        fits : m < slots
        fits = omega (arith, tree.sound.count_high)

        rest_stored : rest_in (set rests m rest) m ≡ rest
        rest_stored = get_or-set_same rests m rest 0 (omega (arith, fits, s.wide.0))

        light : (u : ℕ) → rest_in (set rests m rest) u ≤ limit_of t
        light u =
            ⊎_elim
            (λ b. rw (eqb-true u m b) (omega (arith, rest_stored, rest_is, rest_light tree m low high)))
            (λ b. omega (arith, get_or-set_other rests m u rest 0 (eqb-false u m b), s.light u)) (bool_cases (eqb u m))

        tails : (u : ℕ) → m - 1 < u → u ≤ node_count t → Tail t u (get_or (set lasts m last') u 0) (get_or (set sums m sum') u 0)
        tails =
            each (λ u. Tail t u (get_or (set lasts m last') u 0) (get_or (set sums m sum') u 0))
            (rw (
              get_or-set_same lasts m last' 0 (omega (arith, fits, s.wide.2)),
              get_or-set_same sums m sum' 0 (omega (arith, fits, s.wide.1)),
              last_here,
            ) (tail_here next next_is))
            (λ u other more top.
            rw (get_or-set_other lasts m u last' 0 other, get_or-set_other sums m u sum' 0 other) (s.tails u more top))

        -- no first child is stored to
        same_last : (u : ℕ) → m - 1 < u → u ≤ node_count t → last_kid t (set lasts m last') u ≡ last_kid t lasts u
        same_last u more top =
            get_or-set_other lasts m (first_at t u) last' 0
            (λ z. omega (arith, first_step sound u (omega arith) top (omega arith)))

        cuts : (u : ℕ) → m - 1 < u → u ≤ node_count t
            → siblings_back t (mark_at marks') (last_kid t lasts u) ≡ cut_runs (limit_of t) (weight_at t u) (kid_rests t u)
        cuts =
            each (λ u. siblings_back t (mark_at marks') (last_kid t lasts u)
            ≡ cut_runs (limit_of t) (weight_at t u) (kid_rests t u)) cuts_here
            (λ u other more top.
            siblings_back_same t (mark_at marks') (mark_at marks) u
            (λ x one high' f. d.others x one (λ y. other (sym f ∙ y)))
            (last_kid t lasts u) (kids_of_lem u (omega arith) (omega arith) top).child
            ∙ s.cuts u more top)

        pub settled_node : length marks' ≡ length marks
            → Settled t (record {
              before = nodes.before;
              rests = set rests m rest;
              sums = set sums m sum';
              lasts = set lasts m last';
            }) marks' (m - 1)
        settled_node same =
            record {
              linked = s.linked;
              wide = (simp length-set s.wide.0, simp length-set s.wide.1, simp length-set s.wide.2);
              long = same ∙ s.long;
              light = light;
              no_sum = get_or-set_other sums m 0 sum' 0 (λ z. omega arith) ∙ s.no_sum;
              no_last = get_or-set_other lasts m 0 last' 0 (λ z. omega arith) ∙ s.no_last;
              rests_are =
                  each (λ u. rest_in (set rests m rest) u ≡ rest_at t u) (rest_stored ∙ rest_is)
                  (λ u other more top. get_or-set_other rests m u rest 0 other ∙ s.rests_are u more top);
              tails = tails;
              cuts = λ u more top. ap (siblings_back t (mark_at marks')) (same_last u more top) ∙ cuts u more top;
            }

-- ---- The plan

pub settled_start : {t marks : List ℕ} (n : Siblings) → SiblingsLinked t n.before.now → n.rests ≡ replicate slots 0
    → n.sums ≡ replicate slots 0 → n.lasts ≡ replicate slots 0 → length marks ≡ node_count t
    → Settled t n marks (node_count t)
settled_start {t} n l rests_are sums_are lasts_are long =
    let wide : length {A = ℕ} (replicate slots 0) ≡ slots = length-replicate {A = ℕ} slots 0 in
    record {
      linked = l;
      wide = (ap length rests_are ∙ wide, ap length sums_are ∙ wide, ap length lasts_are ∙ wide);
      long = long;
      light = λ u. omega (arith, ap (λ (x : List ℕ). get_or x u 0) rests_are, zeros slots u);
      no_sum = ap (λ (x : List ℕ). get_or x 0 0) sums_are ∙ zeros slots 0;
      no_last = ap (λ (x : List ℕ). get_or x 0 0) lasts_are ∙ zeros slots 0;
      rests_are = λ u more top. absurd (omega arith);
      tails = λ u more top. absurd (omega arith);
      cuts = λ u more top. absurd (omega arith);
    }

module _ {t marks : List ℕ} {nodes : Siblings} (tree : AcceptedFacts t) (s : Settled t nodes marks 0) where
  abbrev plan : List ℕ
  plan = set marks 0 1

  -- the root is no child
  laid : (u : ℕ) → 1 ≤ u → u ≤ node_count t
      → ChildrenLaid t (λ w kids m. reverse (cut_runs (limit_of t) w (right_rests (limit_of t) kids))) (mark_at plan) u
  laid u low high =
      let lasts : List ℕ = nodes.lasts in
      let k = kids_of_lem tree s u (omega arith) low high in
      let same : siblings_back t (mark_at plan) (last_kid t lasts u) ≡ siblings_back t (mark_at marks) (last_kid t lasts u) =
      siblings_back_same t (mark_at plan) (mark_at marks) u
      (λ x one top e. mark_other marks 1 x 1 (omega arith) one
      (λ z. omega (arith, e, ap (parent_at t) z, parent_at_one t))) (last_kid t lasts u) k.child in
      record {
        chosen = reverse (siblings_back t (mark_at plan) (last_kid t lasts u));
        along = back_along tree.sound (mark_at plan) u low (last_kid t lasts u) k.child k.link;
        same = ap reverse (sym (same ∙ s.cuts u (omega arith) high));
      }

  pub settled_plan : plan ≡ rightmost_marks (limit_of t) (tree_of t)
  unfolding rightmost_marks mark_at
  settled_plan =
      let one : mark_at plan 1 ≡ 1 =
      mark_same marks 1 1 (omega arith) (omega (arith, s.long, tree.sound.count_low)) in
      sym
      (ap (λ k. lay_rightmost (limit_of t) (tree_of t) (k ∷ [])) (sym one)
      ∙ marks_laid t (λ (m : ℕ). m) (λ w kids m. reverse (cut_runs (limit_of t) w (right_rests (limit_of t) kids)))
      (mark_at plan) plan (simp length-set s.long) (λ u h. ap (λ i. get_or plan i 0) (omega arith)) laid
      tree.sound)
