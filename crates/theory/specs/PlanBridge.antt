-- Pages by number and by shape are the same: for a table of sound form and as many marks as nodes, where the marks of
-- the tree are allowed, the pages are as many, and weigh as much, as by shape.
-- Proves count_bridge, weight_bridge, by what the nodes of a chain add to the pages by number. Assumes nothing.
use Prim.Native.Nat.{ℕ, zero, suc, ◌+◌, ◌-◌, ◌≤◌, ◌<◌}
use native.Mathlib.Omega.{arith}
use Rattle.std.proofs.Common.{add-zero, sym, ◌∙◌, length-append}
use Rattle.std.specs.Prelude.{Bool, ◌≡◌, drop, eqb}
use Rattle.std.proofs.Math.Bool.{true, false}
use Rattle.std.proofs.lemmas.Bool.{false≢true}
use Rattle.std.proofs.Math.Path.{refl, ap}
use mathlib.Core.List.{List, [], ◌∷◌, ◌++◌}
use Rattle.std.proofs.Math.ListN.{length, get_or}
use borrow.Author.Tests.{eq-eqb, ne_eqb}
use Rattle.model.specs.Basics.{pick, count_to}
use Rattle.model.specs.Table.{node_count, weight_at, label_at, first_at, next_at, Chain, end, node, tree_of}
use Rattle.model.specs.Plan.{prev_at, parent_at, begins, mark_at, has_mark, page_of, page_count, page_weight}
use Rattle.theory.specs.Bools.{three_true}
use Rattle.theory.specs.Ranges.{pick_true, pick_false, count_to_zero, count_to_yes, count_to_no}
use Rattle.theory.specs.Sums.{pick_add, pick_none}
use Rattle.theory.specs.TableFacts.{SoundFacts}
use Rattle.theory.specs.PlanShape.{runs, allowed_mark, allowed, Weights, joined, weighed}
use Rattle.theory.specs.TableNumbered.{Numbered, none, some, numbered_size, numbered_le, sound_tree}
use Rattle.theory.specs.TableLinks.{next_prev, first_prev, next_parent, first_parent, prev_at_one, parent_at_one}
use Rattle.theory.specs.PlanPass.{page_of_none, weight_to, weight_to_zero, weight_to_suc}
use Rattle.theory.specs.PlanPages.{page_of_begins, page_of_continues, page_of_stays}
use Rattle.theory.specs.PlanMarks.{weighed_from, allowed_from}

-- ---- What page x weighs, where the pages of a list are numbered from n + 1

unfoldable page_in : ℕ → List ℕ → ℕ → ℕ
page_in n [] x = 0
page_in n (p ∷ ps) x = pick (eqb (suc n) x) p 0 + page_in (suc n) ps x

page_in-append : (n : ℕ) (a b : List ℕ) (x : ℕ) → page_in n (a ++ b) x ≡ page_in n a x + page_in (n + length a) b x
unfolding page_in
page_in-append n [] b x = rw (add-zero n) (omega arith)
page_in-append n (p ∷ a) b x =
    let same : n + suc (length a) ≡ suc n + length a = omega arith in
    rw (same, page_in-append (suc n) a b x) (omega arith)

page_in_low : (n : ℕ) (ps : List ℕ) (x : ℕ) → x ≤ n → page_in n ps x ≡ 0
unfolding page_in
page_in_low n [] x h = refl
page_in_low n (p ∷ ps) x h =
    omega (
      arith,
      pick_false (eqb (suc n) x) p 0 (ne_eqb (suc n) x (λ z. omega arith)),
      page_in_low (suc n) ps x (omega arith),
    )

-- it is that element of the list
page_in_at : (n : ℕ) (ps : List ℕ) (i : ℕ) → page_in n ps (suc (n + i)) ≡ get_or ps i 0
unfolding page_in
page_in_at n [] i = refl
page_in_at n (p ∷ ps) zero =
    omega (
      arith,
      pick_true (eqb (suc n) (suc (n + 0))) p 0 (eq-eqb (suc n) (suc (n + 0)) (omega arith)),
      page_in_low (suc n) ps (suc (n + 0)) (omega arith),
    )
page_in_at n (p ∷ ps) (suc i) =
    let same : suc (n + suc i) ≡ suc (suc n + i) = omega arith in
    rw same
    (omega (
      arith,
      pick_false (eqb (suc n) (suc (suc n + i))) p 0 (ne_eqb (suc n) (suc (suc n + i)) (λ z. omega arith)),
      page_in_at (suc n) ps i,
    ))

-- ---- What a chain adds to the pages

-- The nodes v + 1 to e, in a chain under a parent on page q and after a sibling on page r, come to w: so much stays on
-- q, so much is carried to r, and the pages that begin are the next ones, in order.
record Adds (t m : List ℕ) (v e q r : ℕ) (w : Weights) : Type 0 where
  count : count_to e (has_mark m begins) ≡ count_to v (has_mark m begins) + length w.pages
  weight : (x : ℕ)
      → weight_to e t m x
      ≡ weight_to v t m x + pick (eqb q x) w.stay 0 + pick (eqb r x) w.carry 0
      + page_in (count_to v (has_mark m begins)) w.pages x

-- after a sibling in no run, nothing is carried
carry_none : (c : Chain) (ms : List ℕ) → allowed false c ms ≡ true → (weighed c ms).carry ≡ 0
unfolding allowed weighed allowed_mark joined
carry_none end ms e = refl
carry_none (node w l kids next) [] e = refl
carry_none (node w l kids next) (zero ∷ ms) e = refl
carry_none (node w l kids next) (suc zero ∷ ms) e = refl
carry_none (node w l kids next) (suc (suc zero) ∷ ms) e = absurd (false≢true e)
carry_none (node w l kids next) (suc (suc (suc k)) ∷ ms) e = absurd (false≢true e)

-- a node with its children and the siblings after it, by its mark
module _ (t m : List ℕ) (v e₁ e₂ q r : ℕ) (a b : Weights) (none-carried : a.carry ≡ 0)
    (below : Adds t m (suc v) e₁ (page_of t m (suc v)) 0 a) (after : Adds t m e₁ e₂ q (page_of t m (suc v)) b) where
  -- the node and its children are on the node's page, and what the siblings after it carry
  adds_count : count_to e₂ (has_mark m begins) ≡ count_to (suc v) (has_mark m begins) + length (a.pages ++ b.pages)
  adds_count = simp length-append (omega (arith, below.count, after.count))

  adds_weight : (x : ℕ)
      → weight_to e₂ t m x
      ≡ weight_to v t m x + pick (eqb (page_of t m (suc v)) x) (weight_at t (suc v) + a.stay + b.carry) 0
      + pick (eqb q x) b.stay 0
      + page_in (count_to (suc v) (has_mark m begins)) (a.pages ++ b.pages) x
  adds_weight x =
      let here : Bool = eqb (page_of t m (suc v)) x in
      let n : ℕ = count_to (suc v) (has_mark m begins) in
      let none : pick (eqb 0 x) a.carry 0 ≡ 0 = ap (λ y. pick (eqb 0 x) y 0) none-carried ∙ pick_none (eqb 0 x) in
      let from : page_in (count_to e₁ (has_mark m begins)) b.pages x ≡ page_in (n + length a.pages) b.pages x =
      ap (λ y. page_in y b.pages x) below.count in
      omega (
        arith,
        weight_to_suc v t m x,
        below.weight x,
        after.weight x,
        pick_add here (weight_at t (suc v) + a.stay) b.carry,
        pick_add here (weight_at t (suc v)) a.stay,
        page_in-append n a.pages b.pages x,
      )

  adds_stays : mark_at m (suc v) ≡ 0 → page_of t m (parent_at t (suc v)) ≡ q → b.carry ≡ 0
      → Adds t m v e₂ q r (joined 0 (weight_at t (suc v)) a b)
  unfolding joined
  adds_stays k same none_after =
      record {
        count = omega (arith, adds_count, no_more);
        weight =
            λ x.
            omega (
              arith,
              rw (page, none_after, no_more) at (adds_weight x),
              pick_none (eqb r x),
              pick_add (eqb q x) (weight_at t (suc v) + a.stay) 0,
              pick_add (eqb q x) (weight_at t (suc v) + a.stay) b.stay,
              pick_none (eqb q x),
            );
      }
    where
      no_more : count_to (suc v) (has_mark m begins) ≡ count_to v (has_mark m begins)
      no_more = count_to_no v (has_mark m begins) (ne_eqb (mark_at m (suc v)) 1 (λ z. omega arith))

      page : page_of t m (suc v) ≡ q
      page =
          page_of_stays t m (suc v) (omega arith) (ne_eqb (mark_at m (suc v)) 1 (λ z. omega arith))
          (ne_eqb (mark_at m (suc v)) 2 (λ z. omega arith))
          ∙ same

  adds_begins : mark_at m (suc v) ≡ 1 → Adds t m v e₂ q r (joined 1 (weight_at t (suc v)) a b)
  unfolding joined page_in
  adds_begins k =
      record {
        count = omega (arith, adds_count, more);
        weight = λ x. omega (arith, rw (page, more) at (adds_weight x), pick_none (eqb r x));
      }
    where
      begun : has_mark m begins (suc v) ≡ true
      begun = eq-eqb (mark_at m (suc v)) 1 k

      more : count_to (suc v) (has_mark m begins) ≡ suc (count_to v (has_mark m begins))
      more = count_to_yes v (has_mark m begins) begun

      page : page_of t m (suc v) ≡ suc (count_to v (has_mark m begins))
      page = page_of_begins t m (suc v) (omega arith) begun ∙ more

  adds_continues : mark_at m (suc v) ≡ 2 → page_of t m (prev_at t (suc v)) ≡ r
      → Adds t m v e₂ q r (joined 2 (weight_at t (suc v)) a b)
  unfolding joined
  adds_continues k same =
      record {
        count = omega (arith, adds_count, no_more);
        weight = λ x. omega (arith, rw (page, no_more) at (adds_weight x));
      }
    where
      no_more : count_to (suc v) (has_mark m begins) ≡ count_to v (has_mark m begins)
      no_more = count_to_no v (has_mark m begins) (ne_eqb (mark_at m (suc v)) 1 (λ z. omega arith))

      page : page_of t m (suc v) ≡ r
      page = page_of_continues t m (suc v) (omega arith) (eq-eqb (mark_at m (suc v)) 2 k) ∙ same

  -- whatever its mark is, if it is allowed
  adds_node : (run : Bool) (k : ℕ) → mark_at m (suc v) ≡ k → allowed_mark run k ≡ true
      → page_of t m (parent_at t (suc v)) ≡ q
      → page_of t m (prev_at t (suc v)) ≡ r → (runs k ≡ false → b.carry ≡ 0)
      → Adds t m v e₂ q r (joined k (weight_at t (suc v)) a b)
  unfolding allowed_mark runs
  adds_node run zero e ok up back last = adds_stays e up (last refl)
  adds_node run (suc zero) e ok up back last = adds_begins e
  adds_node run (suc (suc zero)) e ok up back last = adds_continues e back
  adds_node run (suc (suc (suc k))) e ok up back last = absurd (false≢true ok)

module _ {t : List ℕ} (s : SoundFacts t) (m : List ℕ) (long : length m ≡ node_count t) where
  chain_adds : {v e u : ℕ} {c : Chain} → Numbered t v u c e → (run : Bool) (q r : ℕ)
      → (1 ≤ u → page_of t m (parent_at t u) ≡ q)
      → (1 ≤ u → page_of t m (prev_at t u) ≡ r) → e ≤ node_count t → allowed run c (drop v m) ≡ true
      → Adds t m v e q r (weighed c (drop v m))
  unfolding weighed page_in
  chain_adds none run q r up back high ok =
      record { count = omega arith; weight = λ x. omega (arith, pick_none (eqb q x), pick_none (eqb r x)) }
  chain_adds (some {m = v} {e₁ = e₁} {e₂ = e₂} {kids = kids} {next = next} k z) run q r up back high ok =
      let le : suc v ≤ e₁ = numbered_le k in
      let le' : e₁ ≤ e₂ = numbered_le z in
      let inside : v < length m = omega arith in
      let here : 1 ≤ suc v = omega arith in
      let there : suc v ≤ node_count t = omega arith in
      let w : ℕ = weight_at t (suc v) in
      let l : ℕ = label_at t (suc v) in
      let parts =
      three_true (allowed_mark run (mark_at m (suc v))) (allowed false kids (drop (suc v) m))
      (allowed (runs (mark_at m (suc v))) next (drop e₁ m))
      (sym (allowed_from m v w l kids next e₁ (numbered_size k) inside run) ∙ ok) in
      let below : Adds t m (suc v) e₁ (page_of t m (suc v)) 0 (weighed kids (drop (suc v) m)) =
      chain_adds k false (page_of t m (suc v)) 0
      (λ one. ap (page_of t m) (first_parent s (suc v) (first_at t (suc v)) here there one refl))
      (λ one. ap (page_of t m) (first_prev s (suc v) (first_at t (suc v)) here there one refl) ∙ page_of_none t m)
      (omega arith)
      parts.1 in
      let after : Adds t m e₁ e₂ q (page_of t m (suc v)) (weighed next (drop e₁ m)) =
      chain_adds z (runs (mark_at m (suc v))) q (page_of t m (suc v))
      (λ one. ap (page_of t m) (next_parent s (suc v) (next_at t (suc v)) here there one refl) ∙ up here)
      (λ one. ap (page_of t m) (next_prev s (suc v) (next_at t (suc v)) here there one refl))
      high
      parts.2 in
      rw (weighed_from m v w l kids next e₁ (numbered_size k) inside)
      (adds_node t m v e₁ e₂ q r (weighed kids (drop (suc v) m)) (weighed next (drop e₁ m))
      (carry_none kids (drop (suc v) m) parts.1)
      below
      after
      run
      (mark_at m (suc v))
      refl
      parts.0
      (up here)
      (back here)
      (λ no_run. carry_none next (drop e₁ m) (ap (λ x. allowed x next (drop e₁ m)) (sym no_run) ∙ parts.2)))

  -- the whole tree
  tree_adds : allowed false (tree_of t) m ≡ true → Adds t m 0 (node_count t) 0 0 (weighed (tree_of t) m)
  tree_adds ok =
      chain_adds (sound_tree s) false 0 0 (λ one. ap (page_of t m) (parent_at_one t) ∙ page_of_none t m)
      (λ one. ap (page_of t m) (prev_at_one t) ∙ page_of_none t m)
      (omega arith)
      ok

  -- there are as many pages as by shape
  pub count_bridge : allowed false (tree_of t) m ≡ true → page_count t m ≡ length (weighed (tree_of t) m).pages
  unfolding page_count
  count_bridge ok = omega (arith, (tree_adds ok).count, count_to_zero (has_mark m begins))

  -- and each weighs as much
  pub weight_bridge : allowed false (tree_of t) m ≡ true → (p : ℕ) → 1 ≤ p
      → page_weight t m p ≡ get_or (weighed (tree_of t) m).pages (p - 1) 0
  unfolding page_weight weight_to
  weight_bridge ok zero low = absurd (omega arith)
  weight_bridge ok (suc p) low =
      let pages : List ℕ = (weighed (tree_of t) m).pages in
      let same : suc p - 1 ≡ p = omega arith in
      let sum : 0 + p ≡ p = omega arith in
      let at : page_in 0 pages (suc (0 + p)) ≡ get_or pages p 0 = page_in_at 0 pages p in
      let start : page_in (count_to 0 (has_mark m begins)) pages (suc p) ≡ page_in 0 pages (suc p) =
      ap (λ n. page_in n pages (suc p)) (count_to_zero (has_mark m begins)) in
      rw same
      (omega (
        arith,
        (tree_adds ok).weight (suc p),
        weight_to_zero t m (suc p),
        pick_false (eqb 0 (suc p)) (weighed (tree_of t) m).stay 0 (ne_eqb 0 (suc p) (λ z. omega arith)),
        pick_false (eqb 0 (suc p)) (weighed (tree_of t) m).carry 0 (ne_eqb 0 (suc p) (λ z. omega arith)),
        rw sum at at,
      ))
