-- One turn of depth-first, for node v + 1 after the nodes 1 to v, and what it has at its end.
-- Defines DepthTo, SeenTo (the same of an array that has all of a node in one place). Proves seen_start, node_turn,
-- depth_end, and that the numbers of a turn have places in the array.
-- Assumes nothing.
use Prim.Native.Nat.{ℕ, zero, suc, ◌+◌, ◌-◌, ◌≤◌, ◌<◌}
use native.Mathlib.Omega.{arith}
use native.Mathlib.Numerals.{add-one}
use mathlib.Core.Path.{◌≡◌, refl, sym, ◌∙◌, ap}
use mathlib.Core.Logic.{◌⊎◌, inl, inr}
use mathlib.Core.List.{List, ◌∷◌, map}
use lib.ListN.{length, get_or, set, replicate, get_or-replicate, length-set}
use lib.Seq.{get_or-set_other, ext_get_or}
use lib.Dec.{eqb}
use Rattle.std.proofs.lemmas.List.{map-set}
use Rattle.std.proofs.Math.ListN.{get_or-map}
use Rattle.std.proofs.Math.Seq.{map-set_same}
use Rattle.model.specs.Basics.{pick}
use Rattle.model.specs.Table.{slots, node_count, limit_of, weight_at, next_at, tree_of}
use Rattle.model.specs.Plan.{prev_at, parent_at, begins, mark_at, has_mark, page_of}
use Rattle.model.specs.Steps.{Page, page_mark, depth_first_marks}
use Rattle.theory.specs.Ranges.{Upto, count_to_zero, count_to_le, last_to_zero}
use Rattle.theory.specs.Lists.{get_d_set}
use Rattle.theory.specs.TableFacts.{AcceptedFacts}
use Rattle.theory.specs.TableLinks.{next_le, prev_at_less, parent_at_less}
use Rattle.theory.specs.PlanPass.{weight_to_zero}
use Rattle.theory.specs.Slots.{Row, SlotsHold, slots_start, row_add, prev_to, prevs_turn, prior_is, parent_is, home_is}
use Rattle.theory.specs.DepthFirst.{page_to, depth_long, depth_mark, depth_begins, depth_joins, depth_home, depth_within}
use Rattle.quick.specs.declared.depth_first.Seen.{Seen}

abbrev plan : List ℕ → List ℕ
plan t = depth_first_marks (limit_of t) (tree_of t)

-- what stands in the arrays after the nodes 1 to v
pub record DepthTo (t : List ℕ) (v : ℕ) (before parents pages : List ℕ) (number sum : ℕ) (marks : List ℕ) : Type 0 where
  pub prevs : SlotsHold (prev_to t v) before
  pub parents_long : length parents ≡ slots
  pub parents_to : Row v (parent_at t) parents
  pub pages_long : length pages ≡ slots
  pub pages_to : Row v (page_of t (plan t)) pages
  pub pages_none : get_or pages 0 0 ≡ 0
  pub number_is : number ≡ (page_to t (plan t) v).number
  pub sum_is : sum ≡ (page_to t (plan t) v).weight
  pub marks_long : length marks ≡ node_count t
  pub marks_to : Upto v (λ u. mark_at marks u ≡ mark_at (plan t) u)

pub depth_start : (t marks : List ℕ) → length marks ≡ node_count t
    → DepthTo t 0 (replicate slots 0) (replicate slots 0) (replicate slots 0) 0 0 marks
depth_start t marks long =
    record {
      prevs = slots_start (prev_to t 0) (λ w. last_to_zero (λ u. eqb (next_at t u) w));
      parents_long = refl;
      parents_to = λ u low high. absurd (omega arith);
      pages_long = refl;
      pages_to = λ u low high. absurd (omega arith);
      pages_none = get_or-replicate slots 0 0 0 (omega arith);
      number_is = sym (count_to_zero (has_mark (plan t) begins));
      sum_is = sym (weight_to_zero t (plan t) (page_to t (plan t) 0).number);
      marks_long = long;
      marks_to = λ u low high. absurd (omega arith);
    }

-- the turn of node v + 1
module _ {t : List ℕ} {v : ℕ} {before parents pages : List ℕ} {number sum : ℕ} {marks : List ℕ} (a : AcceptedFacts t)
    (h : DepthTo t v before parents pages number sum marks) (less : v < node_count t) where
  -- the sibling before it
  abbrev u : ℕ
  u = get_or before (v + 1) 0

  u_is : u ≡ prev_at t (v + 1)
  u_is = prior_is t before v h.prevs (omega (arith, a.sound.count_high))

  u_less : u ≤ v
  u_less = omega (arith, u_is, prev_at_less t (v + 1) (omega arith))

  u_fits : u < slots
  u_fits = omega (arith, u_less, a.sound.count_high)

  next_fits : next_at t (v + 1) < slots
  next_fits = omega (arith, next_le a.sound (v + 1) (omega arith) (omega arith), a.sound.count_high)

  pub number_fits : number ≤ v
  number_fits = omega (arith, h.number_is, count_to_le v (has_mark (plan t) begins))

  sum_fits : (w : ℕ) → w ≡ weight_at t (v + 1) → (sum ≤ limit_of t) × (w ≤ limit_of t)
  sum_fits w e = (
    omega (arith, h.sum_is, depth_within a v (page_to t (plan t) v).number (omega arith)),
    omega (arith, a.light (v + 1) (omega arith) (omega arith)),
  )

  module _ (parent : ℕ) (parent-as : parent ≡ pick (eqb u 0) (v + 1 - 1) (get_or parents u 0)) where
    parent_here : parent ≡ parent_at t (v + 1)
    parent_here = parent_is a parents v u parent h.parents_to less u_is parent-as

    parent_less : parent ≤ v
    parent_less = omega (arith, parent_here, parent_at_less t (v + 1) (omega arith))

    parent_fits : parent < slots
    parent_fits = omega (arith, parent_less, a.sound.count_high)

    -- the pages of its parent and of the sibling before it
    up_is : get_or pages parent 0 ≡ page_of t (plan t) (parent_at t (v + 1))
    up_is =
        home_is t (plan t) pages v parent h.pages_to h.pages_none parent_less
        ∙ ap (page_of t (plan t)) parent_here

    back_is : get_or pages u 0 ≡ page_of t (plan t) (prev_at t (v + 1))
    back_is = home_is t (plan t) pages v u h.pages_to h.pages_none u_less ∙ ap (page_of t (plan t)) u_is

    module _ (mark limit w : ℕ) (limit_is : limit ≡ limit_of t) (w-is : w ≡ weight_at t (v + 1))
        (mark-as : mark
        ≡ page_mark limit w (get_or pages parent 0) (get_or pages u 0) (record { number = number; weight = sum })) where
      mark_is : mark ≡ mark_at (plan t) (v + 1)
      mark_is =
          mark-as
          ∙ rw (limit_is, w-is, up_is, back_is, h.number_is, h.sum_is, add-one v) (sym (depth_mark a v less))

      -- the number n and the weight s of the current page with it, where it begins a page and where not
      abbrev Paged : ℕ → ℕ → Type 0
      Paged n s =
          ((mark ≡ 1) × (n ≡ number + 1) × (s ≡ w)) ⊎ ((mark ≡ 1 → ⊥) × (n ≡ number) × (s ≡ sum + w))

      page_is : (n s : ℕ) → Paged n s
          → (n ≡ (page_to t (plan t) (v + 1)).number) × (s ≡ (page_to t (plan t) (v + 1)).weight)
      page_is n s (inl new) =
          let page = depth_begins a v less (ap (mark_at (plan t)) (sym (add-one v)) ∙ sym mark_is ∙ new.0) in
          rw (add-one v) (
            omega (arith, new.1, h.number_is, ap (λ (p : Page). p.number) page),
            new.2 ∙ w-is ∙ ap (weight_at t) (add-one v) ∙ sym (ap (λ (p : Page). p.weight) page),
          )
      page_is n s (inr same) =
          let page = depth_joins a v less (λ e. same.0 (mark_is ∙ ap (mark_at (plan t)) (add-one v) ∙ e)) in
          rw (add-one v) (
            same.1 ∙ h.number_is ∙ sym (ap (λ (p : Page). p.number) page),
            omega (arith, same.2, h.sum_is, w-is ∙ ap (weight_at t) (add-one v), ap (λ (p : Page). p.weight) page),
          )

      marks_turn : Upto (v + 1) (λ k. mark_at (set marks (v + 1 - 1) mark) k ≡ mark_at (plan t) k)
      unfolding mark_at
      marks_turn k low high =
          get_d_set marks (v + 1 - 1) mark (k - 1) (mark_at (plan t) k)
          (λ same.
          (omega (arith, h.marks_long), mark_is ∙ ap (λ (i : ℕ). get_or (plan t) i 0) (sym same)))
          (λ other. h.marks_to k low (omega arith))

      depth_turn : (x n s : ℕ) → x ≡ next_at t (v + 1) → Paged n s
          → DepthTo t (v + 1) (set before x (v + 1)) (set parents (v + 1) parent) (set pages (v + 1) n) n s
          (set marks (v + 1 - 1) mark)
      depth_turn x n s x-is paged =
          let now = page_is n s paged in
          let small = a.sound.count_high in
          let other : 0 ≡ v + 1 → ⊥ = omega arith in
          let home : n ≡ page_of t (plan t) (v + 1) = now.0 ∙ rw (add-one v) (sym (depth_home a v less)) in
          record {
            prevs = prevs_turn t before v x h.prevs x-is (omega (arith, x-is, next_fits));
            parents_long = simp length-set h.parents_long;
            parents_to =
                row_add (parent_at t) parents v parent h.parents_to (omega (arith, h.parents_long)) parent_here;
            pages_long = simp length-set h.pages_long;
            pages_to = row_add (page_of t (plan t)) pages v n h.pages_to (omega (arith, h.pages_long)) home;
            pages_none = get_or-set_other pages (v + 1) 0 n 0 other ∙ h.pages_none;
            number_is = now.0;
            sum_is = now.1;
            marks_long = simp length-set h.marks_long;
            marks_to = marks_turn;
          }

-- ---- The same by what an array has of each node

abbrev none_seen : Seen
none_seen = record { before = 0; parent = 0; page = 0 }

abbrev befores : List Seen → List ℕ
befores = map (λ (x : Seen). x.before)

abbrev parents_of : List Seen → List ℕ
parents_of = map (λ (x : Seen). x.parent)

abbrev pages_of : List Seen → List ℕ
pages_of = map (λ (x : Seen). x.page)

pub record SeenTo (t : List ℕ) (v : ℕ) (nodes : List Seen) (number sum : ℕ) (marks : List ℕ) : Type 0 where
  pub depth : DepthTo t v (befores nodes) (parents_of nodes) (pages_of nodes) number sum marks

map-none : (f : Seen → ℕ) (n : ℕ) → map f (replicate n none_seen) ≡ replicate n (f none_seen)
map-none f zero = refl
map-none f (suc n) = ap (λ (l : List ℕ). f none_seen ∷ l) (map-none f n)

pub seen_start : (t marks : List ℕ) → length marks ≡ node_count t → SeenTo t 0 (replicate slots none_seen) 0 0 marks
seen_start t marks long =
    record {
      depth = rw (
        map-none (λ (x : Seen). x.before) slots,
        map-none (λ (x : Seen). x.parent) slots,
        map-none (λ (x : Seen). x.page) slots,
      ) (depth_start t marks long);
    }

-- what an array has of a node
abbrev at : List Seen → ℕ → Seen
at nodes u = get_or nodes u none_seen

-- the parent of node w: where no sibling is before it, that is the node before it
abbrev pub ParentAs : List Seen → ℕ → ℕ → Type 0
ParentAs nodes w parent = parent ≡ pick (eqb (at nodes w).before 0) (w - 1) (at nodes (at nodes w).before).parent

-- what is stored in the turn of node w, and of node x just after it
abbrev pub stored : List Seen → ℕ → ℕ → ℕ → ℕ → List Seen
stored nodes w parent page x =
    let one : List Seen =
    set nodes w (record { before = (at nodes w).before; parent = parent; page = (at nodes w).page }) in
    let two : List Seen =
    set one w (record { before = (at one w).before; parent = (at one w).parent; page = page }) in
    set two x (record { before = w; parent = (at two x).parent; page = (at two x).page })

-- the turn of node w
module _ {t : List ℕ} {v : ℕ} {nodes : List Seen} {number sum : ℕ} {marks : List ℕ} (a : AcceptedFacts t)
    (h : SeenTo t v nodes number sum marks) (less : v < node_count t) (w : ℕ) (is : w ≡ v + 1) where
  before_is : get_or (befores nodes) (v + 1) 0 ≡ (at nodes w).before
  before_is = rw is (get_or-map (λ (x : Seen). x.before) nodes (v + 1) none_seen)

  parent_as : (parent : ℕ) → ParentAs nodes w parent
      → parent
      ≡ pick (eqb (get_or (befores nodes) (v + 1) 0) 0) (v + 1 - 1)
      (get_or (parents_of nodes) (get_or (befores nodes) (v + 1) 0) 0)
  parent_as parent e =
      rw (before_is, get_or-map (λ (x : Seen). x.parent) nodes (at nodes w).before none_seen, ← is) e

  pub before_fits : (at nodes w).before < slots
  before_fits = rw before_is at (u_fits a h.depth less)

  pub after_fits : (x : ℕ) → x ≡ next_at t w → x < slots
  after_fits x e = rw (e, is) (next_fits a h.depth less)

  pub page_fits : (k : ℕ) → k ≡ weight_at t w → (sum ≤ limit_of t) × (k ≤ limit_of t)
  page_fits = rw is (sum_fits a h.depth less)

  pub parent_slot : (parent : ℕ) → ParentAs nodes w parent → parent < slots
  parent_slot parent e = parent_fits a h.depth less parent (parent_as parent e)

  pub node_turn : (parent : ℕ) → ParentAs nodes w parent → (mark limit k : ℕ) → limit ≡ limit_of t → k ≡ weight_at t w
      → mark
      ≡ page_mark limit k (at nodes parent).page (at nodes (at nodes w).before).page
      (record { number = number; weight = sum })
      → (x n s : ℕ) → x ≡ next_at t w
      → ((mark ≡ 1) × (n ≡ number + 1) × (s ≡ k)) ⊎ ((mark ≡ 1 → ⊥) × (n ≡ number) × (s ≡ sum + k))
      → SeenTo t w (stored nodes w parent n x) n s (set marks (w - 1) mark)
  node_turn parent e mark limit k le ke me x n s xe paged =
      let f : Seen → ℕ = λ (y : Seen). y.before in
      let g : Seen → ℕ = λ (y : Seen). y.parent in
      let q : Seen → ℕ = λ (y : Seen). y.page in
      let one : List Seen =
      set nodes w (record { before = (at nodes w).before; parent = parent; page = (at nodes w).page }) in
      let two : List Seen =
      set one w (record { before = (at one w).before; parent = (at one w).parent; page = n }) in
      let three : Seen = record { before = w; parent = (at two x).parent; page = (at two x).page } in
      let befores_are : befores (stored nodes w parent n x) ≡ set (befores nodes) x w =
      map-set f two x three
      ∙ ap (λ (l : List ℕ). set l x w) (map-set_same f one w _ none_seen refl ∙ map-set_same f nodes w _ none_seen refl) in
      let parents_are : parents_of (stored nodes w parent n x) ≡ set (parents_of nodes) w parent =
      map-set_same g two x three none_seen refl ∙ map-set_same g one w _ none_seen refl ∙ map-set g nodes w _ in
      let pages_are : pages_of (stored nodes w parent n x) ≡ set (pages_of nodes) w n =
      map-set_same q two x three none_seen refl ∙ map-set q one w _
      ∙ ap (λ (l : List ℕ). set l w n) (map-set_same q nodes w _ none_seen refl) in
      let mark_as : mark
      ≡ page_mark limit k (get_or (pages_of nodes) parent 0)
      (get_or (pages_of nodes) (get_or (befores nodes) (v + 1) 0) 0) (record { number = number; weight = sum }) =
      rw (before_is, get_or-map q nodes parent none_seen, get_or-map q nodes (at nodes w).before none_seen) me in
      let turn : DepthTo t w (set (befores nodes) x w) (set (parents_of nodes) w parent) (set (pages_of nodes) w n) n s
      (set marks (w - 1) mark) =
      rw is
      (depth_turn a h.depth less parent (parent_as parent e) mark limit k le (rw is at ke) mark_as x n s (rw is at xe)
      paged) in
      record { depth = rw (befores_are, parents_are, pages_are) turn }

-- what has a place or fits in a turn
pub ruleset turn_fits = (before_fits, after_fits, page_fits)

pub depth_end : {t : List ℕ} {v : ℕ} {nodes : List Seen} {number sum : ℕ} {marks : List ℕ}
    → AcceptedFacts t → SeenTo t v nodes number sum marks → node_count t ≤ v → marks ≡ plan t
unfolding mark_at
depth_end {t} {marks = marks} a h all =
    ext_get_or 0 marks (plan t) (h.depth.marks_long ∙ sym (depth_long a))
    (λ i fits.
    let same : suc i - 1 ≡ i = omega arith in
    rw same at (h.depth.marks_to (suc i) (omega arith) (omega (arith, h.depth.marks_long))))
