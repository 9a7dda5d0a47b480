-- The marks of a plan from its page records: the last of each run at its first node, carried from sibling to sibling. A
-- node is in the run of the sibling before it where that run goes so far.
-- Defines end_of, due_at, last_at, run_end, mark_for, Lasts, MarksInput. Assumes nothing.
use Prim.Native.Nat.{ℕ, zero, suc, ◌+◌, ◌-◌, ◌≤◌, ◌<◌}
use native.Mathlib.Omega.{arith}
use Rattle.std.specs.Prelude.{Bool, ◌&&◌, ◌≡◌, ◌⊎◌, List, length, get_or, take, set, eqb}
use Rattle.std.proofs.Math.Bool.{true, false, ◌||◌}
use Rattle.std.proofs.Math.Path.{refl, sym, ap}
use Rattle.std.proofs.Common.{◌∙◌, ap₂, inl, inr, get_or-take, length-take-le, ext_get_or}
use Rattle.std.proofs.Math.Dec.{leb}
use borrow.Author.Tests.{eqb-true, eqb-false, eq-eqb, ne_eqb, leb-true, le-leb, lt-leb}
use Rattle.model.specs.Basics.{pick, count_to}
use Rattle.model.specs.Table.{node_count, next_at}
use Rattle.model.specs.Plan.{prev_at, begins, stays, mark_at, has_mark, page_count, run_last}
use Rattle.model.specs.Archive.{pages_in, page_field_in}
use Rattle.model.specs.declared.Edition.{Edition}
use Rattle.theory.specs.Bools.{and_true, and_false_left, and_false_right}
use Rattle.theory.specs.Ranges.{Upto, pick_true, pick_false, order_cases}
use Rattle.theory.specs.Lists.{get_d_set}
use Rattle.theory.specs.TableFacts.{SoundFacts}
use Rattle.theory.specs.TableLinks.{prev_at_less, prev_at_next, next_prev}
use Rattle.theory.specs.Slots.{Row}
use Rattle.theory.specs.Chosen.{ranked_one, count_to_mono, count_to_pass}
use Rattle.theory.specs.RunsByMarks.{good_marks, run_last-on, run_last_stop, run_last_low}
use Rattle.theory.specs.PlanFeasible.{Judged}
use Rattle.theory.specs.PagesByNumber.{Page, page_first}
use Rattle.theory.specs.ArchiveWords.{Described}
use Rattle.theory.specs.JudgeAnswers.{page_count_le}
use Rattle.records.specs.Size.{archive_nodes, film_slots}
use Rattle.film.specs.DecodeTable.{WrittenBy, by_pages, by_begin, by_end, fitted, fitted_same, fitted_le}

-- the last of the run that node u is in, or 0 where it is in none
unfoldable pub end_of : List ℕ → List ℕ → ℕ → ℕ
end_of t m u = pick (eqb u 0 || has_mark m stays u) 0 (run_last t m u)

-- what the nodes 1 to v carry to node w
unfoldable pub due_at : List ℕ → List ℕ → ℕ → ℕ → ℕ
due_at t m v w = pick (leb (prev_at t w) v) (end_of t m (prev_at t w)) 0

-- the last of the run that node v begins, where it is one of the pages 1 to q
unfoldable pub last_at : List ℕ → List ℕ → ℕ → ℕ → ℕ
last_at t m q v = pick (has_mark m begins v && leb (count_to v (has_mark m begins)) q) (run_last t m v) 0

-- the run end of node v from what it begins and what is carried to it
unfoldable pub run_end : ℕ → ℕ → ℕ → ℕ
run_end v last due = pick (eqb last 0) (pick (leb v due) due 0) last

unfoldable pub mark_for : ℕ → ℕ → ℕ
mark_for last end = pick (eqb last 0) (pick (eqb end 0) 0 2) 1

-- a number that is not v + 1 is at most v just where it is at most v + 1
leb_other : (x v : ℕ) → (x ≡ v + 1 → ⊥) → leb x v ≡ leb x (v + 1)
leb_other x v other = by_order (order_cases x (v + 1))
  where
    by_order : (x < v + 1) ⊎ ((x ≡ v + 1) ⊎ (v + 1 < x)) → leb x v ≡ leb x (v + 1)
    by_order (inl k) = le-leb x v (omega arith) ∙ sym (le-leb x (v + 1) (omega arith))
    by_order (inr (inl k)) = absurd (other k)
    by_order (inr (inr k)) = lt-leb x v (omega arith) ∙ sym (lt-leb x (v + 1) k)

module _ (t m : List ℕ) where
  end_of_none : end_of t m 0 ≡ 0
  unfolding end_of
  end_of_none = pick_true (eqb 0 0 || has_mark m stays 0) 0 (run_last t m 0) refl

  end_of_stays : (u : ℕ) → mark_at m u ≡ 0 → end_of t m u ≡ 0
  unfolding end_of
  end_of_stays u z = pick_true (eqb u 0 || has_mark m stays u) 0 (run_last t m u) (go (eqb u 0))
    where
      go : (b : Bool) → (b || has_mark m stays u) ≡ true
      go true = refl
      go false = eq-eqb (mark_at m u) 0 z

  end_of_in : (u : ℕ) → 1 ≤ u → (mark_at m u ≡ 0 → ⊥) → end_of t m u ≡ run_last t m u
  unfolding end_of
  end_of_in u low other =
      pick_false (eqb u 0 || has_mark m stays u) 0 (run_last t m u)
      (ap₂ ◌||◌ (ne_eqb u 0 (λ z. omega arith)) (ne_eqb (mark_at m u) 0 other))

  -- ---- What is carried

  abbrev pub DueRow : ℕ → List ℕ → Type 0
  DueRow v l = (w : ℕ) → v < w → w ≤ node_count t → get_or l w 0 ≡ due_at t m v w

  due_start : (l : List ℕ) → ((k : ℕ) → k < film_slots → get_or l k 0 ≡ 0) → node_count t ≤ archive_nodes → DueRow 0 l
  unfolding due_at
  due_start l h few w less high = h w (omega arith) ∙ sym (go (leb (prev_at t w) 0) refl)
    where
      go : (b : Bool) → leb (prev_at t w) 0 ≡ b → pick (leb (prev_at t w) 0) (end_of t m (prev_at t w)) 0 ≡ 0
      go true e =
          let z : prev_at t w ≡ 0 = omega (arith, leb-true (prev_at t w) 0 e) in
          pick_true (leb (prev_at t w) 0) (end_of t m (prev_at t w)) 0 e ∙ ap (end_of t m) z ∙ end_of_none
      go false e = pick_false (leb (prev_at t w) 0) (end_of t m (prev_at t w)) 0 e

  due_here : (l : List ℕ) (v : ℕ) → DueRow v l → v < node_count t → get_or l (v + 1) 0 ≡ end_of t m (prev_at t (v + 1))
  unfolding due_at
  due_here l v h less =
      h (v + 1) (omega arith) (omega arith)
      ∙ pick_true (leb (prev_at t (v + 1)) v) (end_of t m (prev_at t (v + 1))) 0
      (le-leb (prev_at t (v + 1)) v (omega (arith, prev_at_less t (v + 1) (omega arith))))

  due_turn : SoundFacts t → (l : List ℕ) (v x end : ℕ) → DueRow v l → length l ≡ film_slots → v < node_count t
      → node_count t ≤ archive_nodes
      → x ≡ next_at t (v + 1) → end ≡ end_of t m (v + 1) → DueRow (v + 1) (set l x end)
  unfolding due_at
  due_turn s l v x end h long less few e q w later high =
      get_d_set l x end w (pick (leb (prev_at t w) (v + 1)) (end_of t m (prev_at t w)) 0)
      (λ same.
      let before : prev_at t w ≡ v + 1 =
      next_prev s (v + 1) w (omega arith) (omega arith) (omega arith) (sym e ∙ sym same) in (
        omega arith,
        q ∙ ap (end_of t m) (sym before)
            ∙ sym (pick_true _ (end_of t m (prev_at t w)) 0 (le-leb (prev_at t w) (v + 1) (omega arith))),
      ))
      (λ other.
      h w (omega arith) high
      ∙ ap (λ b. pick b (end_of t m (prev_at t w)) 0)
      (leb_other (prev_at t w) v
      (λ k. other (sym (prev_at_next t w (omega arith)) ∙ ap (next_at t) k ∙ sym e))))

-- ---- The run end and the mark of a node

module _ {t m : List ℕ} (p : Judged t m) (v last due : ℕ) (low : 1 ≤ v) (high : v ≤ node_count t)
    (last_is : last ≡ pick (has_mark m begins v) (run_last t m v) 0) (due-is : due ≡ end_of t m (prev_at t v)) where
  begun : mark_at m v ≡ 1 → last ≡ run_last t m v
  begun one = last_is ∙ pick_true (has_mark m begins v) (run_last t m v) 0 (eq-eqb (mark_at m v) 1 one)

  not_begun : (mark_at m v ≡ 1 → ⊥) → last ≡ 0
  not_begun other = last_is ∙ pick_false (has_mark m begins v) (run_last t m v) 0 (ne_eqb (mark_at m v) 1 other)

  reach : v ≤ run_last t m v
  reach = run_last_low p.tree.sound (good_marks t m p.marked) v low high

  -- a sibling's run that v does not continue ends before v
  due_short : mark_at m v ≡ 0 → due < v
  due_short z = go (eqb (prev_at t v) 0) refl (eqb (mark_at m (prev_at t v)) 0) refl
    where
      go : (b : Bool) → eqb (prev_at t v) 0 ≡ b → (c : Bool) → eqb (mark_at m (prev_at t v)) 0 ≡ c → due < v
      go true e c k = omega (arith, due-is, ap (end_of t m) (eqb-true (prev_at t v) 0 e), end_of_none t m)
      go false e true k = omega (arith, due-is, end_of_stays t m (prev_at t v) (eqb-true (mark_at m (prev_at t v)) 0 k))
      go false e false k =
          let some : prev_at t v ≡ 0 → ⊥ = eqb-false (prev_at t v) 0 e in
          let one : 1 ≤ prev_at t v = omega arith in
          let less = prev_at_less t v low in
          let stop =
          run_last_stop m p.tree.sound (prev_at t v) one (omega arith)
          (λ a b. omega (arith, ap (mark_at m) (prev_at_next t v one))) in
          omega (arith, due-is, end_of_in t m (prev_at t v) one (eqb-false (mark_at m (prev_at t v)) 0 k))

  -- a sibling's run that v continues is v's
  due_on : mark_at m v ≡ 2 → due ≡ run_last t m v
  due_on two =
      let g = good_marks t m p.marked in
      let one : 1 ≤ prev_at t v = g.before v low high two in
      let less = prev_at_less t v low in
      let after = prev_at_next t v one in
      due-is
      ∙ end_of_in t m (prev_at t v) one (not_zero (g.runs_on v low high two))
      ∙ run_last-on m p.tree.sound (prev_at t v) one (omega arith) (omega arith) (ap (mark_at m) after ∙ two)
      ∙ ap (run_last t m) after
    where
      not_zero : (mark_at m (prev_at t v) ≡ 1) ⊎ (mark_at m (prev_at t v) ≡ 2) → mark_at m (prev_at t v) ≡ 0 → ⊥
      not_zero (inl a) z = omega arith
      not_zero (inr a) z = omega arith

  -- by the mark of v
  by_mark : {X : Type 0} → (mark_at m v ≡ 0 → X) → (mark_at m v ≡ 1 → X) → (mark_at m v ≡ 2 → X) → X
  by_mark {X} a b c = go (mark_at m v) refl ((good_marks t m p.marked).few v low high)
    where
      go : (k : ℕ) → mark_at m v ≡ k → mark_at m v ≤ 2 → X
      go zero e h = a e
      go (suc zero) e h = b e
      go (suc (suc zero)) e h = c e
      go (suc (suc (suc k))) e h = absurd (omega arith)

  end_is : run_end v last due ≡ end_of t m v
  unfolding run_end
  end_is =
      by_mark
      (λ z.
      pick_true (eqb last 0) (pick (leb v due) due 0) last (eq-eqb last 0 (not_begun (λ o. omega arith)))
      ∙ pick_false (leb v due) due 0 (lt-leb v due (due_short z))
      ∙ sym (end_of_stays t m v z))
      (λ o.
      pick_false (eqb last 0) (pick (leb v due) due 0) last (ne_eqb last 0 (λ z. omega (arith, begun o, reach)))
      ∙ begun o
      ∙ sym (end_of_in t m v low (λ z. omega arith)))
      (λ two.
      pick_true (eqb last 0) (pick (leb v due) due 0) last (eq-eqb last 0 (not_begun (λ o. omega arith)))
      ∙ pick_true (leb v due) due 0 (le-leb v due (omega (arith, due_on two, reach)))
      ∙ due_on two
      ∙ sym (end_of_in t m v low (λ z. omega arith)))

  pub mark_is : (end : ℕ) → end ≡ run_end v last due → mark_for last end ≡ mark_at m v
  unfolding mark_for
  mark_is end e =
      by_mark
      (λ z.
      pick_true (eqb last 0) (pick (eqb end 0) 0 2) 1 (eq-eqb last 0 (not_begun (λ o. omega arith)))
      ∙ pick_true (eqb end 0) 0 2 (eq-eqb end 0 (e ∙ end_is ∙ end_of_stays t m v z))
      ∙ sym z)
      (λ o.
      pick_false (eqb last 0) (pick (eqb end 0) 0 2) 1 (ne_eqb last 0 (λ z. omega (arith, begun o, reach))) ∙ sym o)
      (λ two.
      pick_true (eqb last 0) (pick (eqb end 0) 0 2) 1 (eq-eqb last 0 (not_begun (λ o. omega arith)))
      ∙ pick_false (eqb end 0) 0 2
      (ne_eqb end 0 (λ z. omega (arith, e, end_is, end_of_in t m v low (λ x. omega arith), reach)))
      ∙ sym two)

-- ---- The last of each run, at its first node

-- by node, the last of the run that it begins, or 0: of the pages 1 to q, and of all
abbrev pub LastRow : List ℕ → List ℕ → ℕ → List ℕ → Type 0
LastRow t m q l = Row (node_count t) (last_at t m q) l

abbrev pub Lasts : List ℕ → List ℕ → List ℕ → Type 0
Lasts t m l = Row (node_count t) (λ v. pick (has_mark m begins v) (run_last t m v) 0) l

module _ {e : Edition} {a t m : List ℕ} (w : WrittenBy e a t m) where
  pub last_start : (l : List ℕ) → ((k : ℕ) → k < film_slots → get_or l k 0 ≡ 0) → LastRow t m 0 l
  unfolding last_at
  last_start l h v low high =
      h v (omega (arith, w.few))
      ∙ sym (pick_false _ (run_last t m v) 0 (go (has_mark m begins v) refl))
    where
      go : (b : Bool) → has_mark m begins v ≡ b → (has_mark m begins v && leb (count_to v (has_mark m begins)) 0) ≡ false
      go true e =
          and_false_right (has_mark m begins v) (leb (count_to v (has_mark m begins)) 0)
          (lt-leb (count_to v (has_mark m begins)) 0 (omega (arith, count_to_pass (has_mark m begins) v low e 0 low)))
      go false e = and_false_left (has_mark m begins v) (leb (count_to v (has_mark m begins)) 0) e

  last_turn : Described e → (l : List ℕ) (q first last : ℕ) → LastRow t m q l → length l ≡ film_slots → q < page_count t m
      → first ≡ page_field_in e a (q + 1) 0 → last ≡ page_field_in e a (q + 1) 1
      → LastRow t m (q + 1) (set l first last)
  unfolding last_at
  last_turn d l q first last h long less f g = on (page_first t m (q + 1) (omega arith) (omega arith))
    where
      on : (b : ℕ) × Page t m (q + 1) b → LastRow t m (q + 1) (set l first last)
      on x v low high =
          get_d_set l first last v (pick next (run_last t m v) 0)
          (λ same.
          let is_b : v ≡ b = same ∙ here in
          let test : next ≡ true =
          and_true (has_mark m begins v) (leb rank (q + 1)) (ap (has_mark m begins) is_b ∙ x.1.passed)
          (le-leb rank (q + 1) (omega (arith, ap (λ u. count_to u (has_mark m begins)) is_b, x.1.rank))) in (
            omega (arith, w.few),
            last_here ∙ ap (run_last t m) (sym is_b) ∙ sym (pick_true next (run_last t m v) 0 test),
          ))
          (λ other.
          h v low high
          ∙ ap (λ y. pick y (run_last t m v) 0) (same_test (λ k. other (k ∙ sym here)) (has_mark m begins v) refl))
        where
          b : ℕ
          b = x.0

          here : first ≡ b
          here = f ∙ by_begin d w (q + 1) b (omega arith) (omega arith) x.1

          last_here : last ≡ run_last t m b
          last_here = g ∙ by_end d w (q + 1) b (omega arith) (omega arith) x.1

          rank : ℕ
          rank = count_to v (has_mark m begins)

          next : Bool
          next = has_mark m begins v && leb rank (q + 1)

          -- another node has another rank
          same_test : (v ≡ b → ⊥) → (c : Bool) → has_mark m begins v ≡ c → (has_mark m begins v && leb rank q) ≡ next
          same_test other true e =
              ap (λ y. has_mark m begins v && y)
              (leb_other rank q
              (λ k.
              other
              (ranked_one (has_mark m begins) (record { low = low; high = high; passed = e; rank = k }) x.1)))
          same_test other false e =
              and_false_left (has_mark m begins v) (leb rank q) e
              ∙ sym (and_false_left (has_mark m begins v) (leb rank (q + 1)) e)

  last_end : (l : List ℕ) (q : ℕ) → LastRow t m q l → page_count t m ≤ q → Lasts t m l
  unfolding last_at page_count
  last_end l q h all v low high = h v low high ∙ ap (λ y. pick y (run_last t m v) 0) (go (has_mark m begins v) refl)
    where
      go : (b : Bool) → has_mark m begins v ≡ b
          → (has_mark m begins v && leb (count_to v (has_mark m begins)) q) ≡ has_mark m begins v
      go true e =
          and_true (has_mark m begins v) (leb (count_to v (has_mark m begins)) q) e
          (le-leb (count_to v (has_mark m begins)) q
          (omega (arith, count_to_mono (has_mark m begins) v (node_count t) high)))
          ∙ sym e
      go false e = and_false_left (has_mark m begins v) (leb (count_to v (has_mark m begins)) q) e ∙ sym e

-- ---- The marks

pub marks_decoded : (t m l : List ℕ) → length m ≡ node_count t → node_count t ≤ length l
    → Upto (node_count t) (λ v. get_or l (v - 1) 0 ≡ mark_at m v) → take (node_count t) l ≡ m
unfolding mark_at
marks_decoded t m l long room h =
    ext_get_or 0 (take (node_count t) l) m (length-take-le (node_count t) l room ∙ sym long)
    (λ i less.
    let within : i < node_count t = omega (arith, length-take-le (node_count t) l room) in
    get_or-take (node_count t) l i 0 within
    ∙ ap (λ j. get_or l j 0) (omega arith)
    ∙ h (i + 1) (omega arith) (omega arith)
    ∙ ap (λ j. get_or m j 0) (omega arith))

-- ---- What the pass over the nodes goes by

pub record MarksInput (t m lasts links : List ℕ) (nodes : ℕ) : Type 0 where
  pub plan : Judged t m
  pub few : node_count t ≤ archive_nodes
  pub count : nodes ≡ node_count t
  pub lasts_are : Lasts t m lasts
  pub links_are : Upto (node_count t) (λ v. pick (eqb v 1) 0 (get_or links v 0) ≡ next_at t v)

-- the marks of the nodes 1 to v
abbrev pub MarksRow : List ℕ → ℕ → List ℕ → Type 0
MarksRow m v l = Upto v (λ u. get_or l (u - 1) 0 ≡ mark_at m u)

-- the marks of the nodes 1 to v, and what they carry on, whatever the pass goes by
abbrev pub MarksPass : List ℕ → List ℕ → ℕ → ℕ → List ℕ → List ℕ → Type 0
MarksPass lasts links nodes v out due =
    (t m : List ℕ) → MarksInput t m lasts links nodes → MarksRow m v out × DueRow t m v due

pub marks_start : (lasts links : List ℕ) (nodes : ℕ) (out due : List ℕ) → ((k : ℕ) → k < film_slots → get_or due k 0 ≡ 0)
    → MarksPass lasts links nodes 0 out due
marks_start lasts links nodes out due h t m g =
    (λ u low high. absurd (omega arith), due_start t m due h g.few)

pub marks_turn : (lasts links : List ℕ) (nodes v : ℕ) (out due : List ℕ) (end mark next : ℕ)
    → MarksPass lasts links nodes v out due
    → length due ≡ film_slots → v < nodes → v < length out
    → end ≡ run_end (v + 1) (get_or lasts (v + 1) 0) (get_or due (v + 1) 0)
    → mark ≡ mark_for (get_or lasts (v + 1) 0) end → next ≡ pick (eqb (v + 1) 1) 0 (get_or links (v + 1) 0)
    → MarksPass lasts links nodes (v + 1) (set out v mark) (set due next end)
marks_turn lasts links nodes v out due end mark next h long less room e k q t m g =
    let r = h t m g in
    let within : v + 1 ≤ node_count t = omega (arith, g.count) in
    let last_is = g.lasts_are (v + 1) (omega arith) within in
    let due-is = due_here t m due v r.1 (omega (arith, g.count)) in
    let end-here =
    e ∙ end_is g.plan (v + 1) (get_or lasts (v + 1) 0) (get_or due (v + 1) 0) (omega arith) within last_is due-is in
    let mark-here =
    k ∙ mark_is g.plan (v + 1) (get_or lasts (v + 1) 0) (get_or due (v + 1) 0) (omega arith) within last_is due-is end
    e in (
      row r.0 mark-here,
      due_turn t m g.plan.tree.sound due v next end r.1 long (omega (arith, g.count))
          g.few
          (q ∙ g.links_are (v + 1) (omega arith) within) end-here,
    )
  where
    row : MarksRow m v out → mark ≡ mark_at m (v + 1) → MarksRow m (v + 1) (set out v mark)
    row old here u low high =
        get_d_set out v mark (u - 1) (mark_at m u) (λ same. (room, here ∙ ap (mark_at m) (omega arith)))
        (λ other. old u low (omega arith))

-- ---- The lasts, from the page records

abbrev pub LastsPass : Edition → List ℕ → ℕ → List ℕ → Type 0
LastsPass e a q l = (t m : List ℕ) → WrittenBy e a t m → LastRow t m q l

module _ {e : Edition} (d : Described e) (a l : List ℕ) (q pages : ℕ) (h : LastsPass e a q l)
    (is : pages ≡ fitted (pages_in e a)) where
  pub lasts_turn : (first last : ℕ) → length l ≡ film_slots → q < pages → first ≡ fitted (page_field_in e a (q + 1) 0)
      → last ≡ page_field_in e a (q + 1) 1 → LastsPass e a (q + 1) (set l first last)
  lasts_turn first last long less f g t m w =
      let within : q < page_count t m = omega (arith, is, fitted_le (pages_in e a), by_pages d w) in
      let x = page_first t m (q + 1) (omega arith) (omega arith) in
      let small : page_field_in e a (q + 1) 0 < film_slots =
      omega (
        arith,
        by_begin d w (q + 1) x.0 (omega arith) (omega arith) x.1,
        x.1.high,
        w.few,
      ) in
      last_turn w d l q first last (h t m w) long within (f ∙ fitted_same (page_field_in e a (q + 1) 0) small) g

  pub lasts_end : pages ≤ q → (t m : List ℕ) → WrittenBy e a t m → Lasts t m l
  lasts_end all t m w =
      let few : pages_in e a < film_slots =
      omega (arith, by_pages d w, page_count_le t m, w.few) in
      last_end w l q (h t m w) (omega (arith, is, fitted_same (pages_in e a) few, by_pages d w))
