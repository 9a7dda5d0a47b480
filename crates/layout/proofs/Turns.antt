-- One turn of the judge's pass, for node w after the nodes 1 to v, and what the pass has at its end.
-- Defines LayoutTo. Assumes nothing.
use Rattle.std.specs.Prelude.{◌≡◌, refl, ℕ, suc, ◌+◌, ◌-◌, ◌*◌, ◌≤◌, ◌<◌, Bool, true, false, not, ◌||◌, List, length, get_or, set, replicate, eqb}
use Rattle.std.proofs.Common.{arith, sym, ap, ap₂, ◌∙◌, length-set, get_or-set_other}
use Rattle.std.proofs.lemmas.List.{get_or-replicate}
use mir.Val.{bool_byte}
use Rattle.std.specs.Bool.{then_some}
use Rattle.std.specs.Option.{option_or}
use Rattle.model.specs.Basics.{pick, when, at_place, count_to, first_to}
use Rattle.model.specs.Table.{max_nodes, max_limit, slots, node_count, weight_at, next_at}
use Rattle.model.specs.Plan.{prev_at, parent_at, mark_at, has_mark, begins, in_run, good_mark, page_of}
use Rattle.model.specs.Plan.{page_count, page_weight, bad_mark}
use Rattle.std.specs.declared.option.Option.{Option}
use Rattle.std.specs.declared.option.Option.TheVariants.{Some, None}
use Rattle.theory.specs.Ranges.{count_to_zero, count_to_suc, count_to_le}
use Rattle.theory.specs.Ranges.{first_to_zero, first_to_suc, last_to_zero}
use Rattle.theory.specs.Sums.{sum_to_most}
use Rattle.theory.specs.TableFacts.{AcceptedFacts}
use Rattle.theory.specs.TableLinks.{next_le, prev_at_less, parent_at_less}
use Rattle.theory.specs.PlanPass.{step_back, back_less, page_of_le, page_of_step}
use Rattle.theory.specs.PlanPass.{weight_to, weight_to_zero, weight_to-on, weight_to_off}
use Rattle.theory.specs.Slots.{Row, SlotsHold, slots_start, slots_store, row_add, prev_to, prevs_turn, prior_is}
use Rattle.theory.specs.Slots.{parent_is, home_is}
use Rattle.theory.specs.PagesByNumber.{last_on_page, last_on_page_zero, last_on_page-on, last_on_page_off}
use Rattle.theory.specs.PagesByNumber.{first_found, last_found}
use Rattle.theory.specs.JudgeAnswers.{page_count_le}
use Rattle.layout.specs.declared.Layout.{Layout}
use Rattle.layout.specs.Rows.{good_case, IsLayout, Cleared}

-- what stands in the arrays after the nodes 1 to v
pub record LayoutTo (t m : List ℕ) (v : ℕ) (before : List ℕ) (r : Layout) (bad : Option ℕ) : Type 0 where
  pub prevs : SlotsHold (prev_to t v) before
  pub parents_long : length r.parents ≡ slots
  pub parents_to : Row v (parent_at t) r.parents
  pub page_long : length r.page ≡ slots
  pub page_to_lem : Row v (page_of t m) r.page
  pub page_none : get_or r.page 0 0 ≡ 0
  pub firsts_to : SlotsHold (last_on_page t m (has_mark m begins) v) r.firsts
  pub lasts_to : SlotsHold (last_on_page t m (in_run m) v) r.lasts
  pub weights_to : SlotsHold (weight_to v t m) r.weights
  pub pages_to : r.pages ≡ count_to v (has_mark m begins)
  pub bad_to : bad ≡ first_to v (λ u. not (good_mark t m u))

pub layout_start : (t m : List ℕ) (r : Layout) → Cleared r → LayoutTo t m 0 (replicate slots 0) r None
layout_start t m r clear =
    rw clear
    (record {
      prevs = slots_start (prev_to t 0) (λ w. last_to_zero (λ u. eqb (next_at t u) w));
      parents_long = refl;
      parents_to = λ u low high. absurd (omega arith);
      page_long = refl;
      page_to_lem = λ u low high. absurd (omega arith);
      page_none = get_or-replicate slots 0 0 0 (omega arith);
      firsts_to = slots_start (last_on_page t m (has_mark m begins) 0) (last_on_page_zero t m (has_mark m begins));
      lasts_to = slots_start (last_on_page t m (in_run m) 0) (last_on_page_zero t m (in_run m));
      weights_to = slots_start (weight_to 0 t m) (weight_to_zero t m);
      pages_to = sym (count_to_zero (has_mark m begins));
      bad_to = sym (first_to_zero (λ u. not (good_mark t m u)));
    })

-- ---- The code's own words

-- a 1 adds one page
one_more : (b : Bool) (n : ℕ) → n + bool_byte b ≡ n + pick b 1 0
unfolding pick
one_more true n = refl
one_more false n = refl

one_most : (b : Bool) → bool_byte b ≤ 1
one_most true = omega arith
one_most false = omega arith

-- the first bad mark so far, or else that of the turn
or_bad : (o : Option ℕ) (good : Bool) (w : ℕ) → option_or o (then_some (not good) w) ≡ at_place o Some (when (not good) w)
unfolding at_place when
or_bad (Some v) good w = refl
or_bad None true w = refl
or_bad None false w = refl

in_run_lem : (m : List ℕ) (v : ℕ) → (eqb (mark_at m v) 1 || eqb (mark_at m v) 2) ≡ in_run m v
unfolding in_run
in_run_lem m v = refl

good_case_lem : (t m : List ℕ) (v : ℕ) → good_case v (mark_at m v) (prev_at t v) (mark_at m (prev_at t v)) ≡ good_mark t m v
unfolding good_case good_mark in_run
good_case_lem t m v = refl

good_is : (t m : List ℕ) (v mark u prior : ℕ) (g : Bool) → g ≡ good_case v mark u prior → mark ≡ mark_at m v
    → u ≡ prev_at t v → prior ≡ mark_at m u → g ≡ good_mark t m v
good_is t m v mark u prior g e a b d =
    e ∙ ap₂ (λ (i j : ℕ). good_case v i u j) a d
    ∙ ap (λ (k : ℕ). good_case v (mark_at m v) k (mark_at m k)) b
    ∙ good_case_lem t m v

-- the node one step back
back_is : (t m : List ℕ) (v mark u parent : ℕ) → mark ≡ mark_at m v → u ≡ prev_at t v → parent ≡ parent_at t v
    → pick (eqb mark 2) u parent ≡ step_back t m v
back_is t m v mark u parent e a b =
    ap₂ (λ (i j : ℕ). pick (eqb mark 2) i j) a b ∙ ap (λ (k : ℕ). pick (eqb k 2) (prev_at t v) (parent_at t v)) e

-- ---- One more node, in each array

module _ {v w : ℕ} (turn : w ≡ suc v) where
  plus : w ≡ v + 1
  plus = omega (arith, turn)

  low : 1 ≤ w
  low = omega (arith, turn)

  count_turn : (m : List ℕ) (mark pages opened : ℕ) → pages ≡ count_to v (has_mark m begins) → mark ≡ mark_at m w
      → opened ≡ bool_byte (eqb mark 1) → pages + opened ≡ count_to w (has_mark m begins)
  count_turn m mark pages opened h e q =
      ap (λ (k : ℕ). pages + k) q
      ∙ ap₂ (λ (k n : ℕ). n + bool_byte (eqb k 1)) e h
      ∙ one_more (has_mark m begins w) (count_to v (has_mark m begins))
      ∙ rw turn (sym (count_to_suc v (has_mark m begins)))

  page_turn : (t m l : List ℕ) (mark next home x : ℕ) → Row v (page_of t m) l → get_or l 0 0 ≡ 0 → mark ≡ mark_at m w
      → next ≡ count_to w (has_mark m begins) → home ≡ step_back t m w
      → x ≡ pick (eqb mark 1) next (get_or l home 0) → x ≡ page_of t m w
  page_turn t m l mark next home x row root e q back r =
      r
      ∙ ap (λ (k : ℕ). pick (eqb mark 1) next k)
      (home_is t m l v home row root (omega (arith, back_less t m w low, back, turn)) ∙ ap (page_of t m) back)
      ∙ ap₂ (λ (k j : ℕ). pick (eqb k 1) j (page_of t m (step_back t m w))) e q
      ∙ sym (page_of_step t m w low)

  lasts_turn : (t m : List ℕ) (test : ℕ → Bool) (l : List ℕ) (q x : ℕ) → SlotsHold (last_on_page t m test v) l
      → q ≡ page_of t m w → q < slots → x ≡ pick (test w) w (get_or l q 0)
      → SlotsHold (last_on_page t m test w) (set l q x)
  lasts_turn t m test l q x h e fits g =
      rw turn
      (slots_store (last_on_page t m test (suc v)) q x h fits
      (g ∙ ap₂ (λ (u k : ℕ). pick (test u) u k) turn (h.at q fits) ∙ sym (last_on_page-on t m test v q here))
      (λ p other. sym (last_on_page_off t m test v p (λ z. other (sym z ∙ here)))))
    where
      here : page_of t m (suc v) ≡ q
      here = ap (page_of t m) (sym turn) ∙ sym e

  weights_turn : (t m l : List ℕ) (q x : ℕ) → SlotsHold (weight_to v t m) l → q ≡ page_of t m w → q < slots
      → x ≡ weight_at t w → SlotsHold (weight_to w t m) (set l q (get_or l q 0 + x))
  weights_turn t m l q x h e fits g =
      rw turn (slots_store (weight_to (suc v) t m) q (get_or l q 0 + x) h fits on off)
    where
      here : page_of t m (suc v) ≡ q
      here = ap (page_of t m) (sym turn) ∙ sym e

      on : get_or l q 0 + x ≡ weight_to (suc v) t m q
      on = omega (arith, h.at q fits, g ∙ ap (weight_at t) turn, weight_to-on v t m q here)

      off : (p : ℕ) → (p ≡ q → ⊥) → weight_to v t m p ≡ weight_to (suc v) t m p
      off p other = sym (weight_to_off v t m p (λ z. other (sym z ∙ here)))

  bad_turn : (t m : List ℕ) (bad next : Option ℕ) (good : Bool) → bad ≡ first_to v (λ u. not (good_mark t m u))
      → good ≡ good_mark t m w → next ≡ option_or bad (then_some (not good) w)
      → next ≡ first_to w (λ u. not (good_mark t m u))
  bad_turn t m bad next good h e q =
      q
      ∙ or_bad bad good w
      ∙ ap₂ (λ (o : Option ℕ) (b : Bool). at_place o Some (when (not b) w)) h e
      ∙ rw turn (sym (first_to_suc v (λ u. not (good_mark t m u))))

-- ---- Weights

module _ {t : List ℕ} (a : AcceptedFacts t) where
  pick_most : (b : Bool) (x k : ℕ) → x ≤ k → pick b x 0 ≤ k
  unfolding pick
  pick_most true x k h = h
  pick_most false x k h = omega arith

  -- a page weighs no more than the limit for each node
  weight_most : (m : List ℕ) (v p : ℕ) → v ≤ node_count t → weight_to v t m p ≤ v * max_limit
  unfolding weight_to
  weight_most m v p high =
      sum_to_most v max_limit (λ u. pick (eqb (page_of t m u) p) (weight_at t u) 0)
      (λ u c d.
      pick_most (eqb (page_of t m u) p) (weight_at t u) max_limit
      (omega (arith, a.light u c (omega arith), a.sound.limit_high)))

-- ---- The turn of node w: what its locals are, and that they have places in the arrays

module _ {t m : List ℕ} {v w : ℕ} {before : List ℕ} {r : Layout} {wrong : Option ℕ} (a : AcceptedFacts t)
    (h : LayoutTo t m v before r wrong) (turn : w ≡ suc v) (high : w ≤ node_count t) where
  -- the sibling before it
  abbrev u : ℕ
  u = get_or before w 0

  u_is : u ≡ prev_at t w
  u_is = rw (plus turn) (prior_is t before v h.prevs (omega (arith, a.sound.count_high)))

  pub u_fits : u < slots
  u_fits = omega (arith, u_is, prev_at_less t w (low turn), a.sound.count_high)

  pub next_fits : {link : ℕ} → link ≡ next_at t w → link < slots
  next_fits e = omega (arith, e, next_le a.sound w (low turn) high, a.sound.count_high)

  pub count_fits : (b : Bool) {opened : ℕ} → opened ≡ bool_byte b → r.pages + opened < slots
  count_fits b e = omega (arith, e, one_most b, h.pages_to, count_to_le v (has_mark m begins), a.sound.count_high)

  module _ {parent : ℕ} (parent-as : parent ≡ pick (eqb u 0) (w - 1) (get_or r.parents u 0)) where
    parent_here : parent ≡ parent_at t w
    parent_here =
        rw (plus turn)
        (parent_is a r.parents v _ parent h.parents_to (omega arith) (rw (plus turn) at u_is) (rw (plus turn) at parent-as))

    pub parent_fits : parent < slots
    parent_fits = omega (arith, parent_here, parent_at_less t w (low turn), a.sound.count_high)

    module _ {mark opened page : ℕ} (mark-as : mark ≡ mark_at m w) (opened-as : opened ≡ bool_byte (eqb mark 1))
        (page-as : page ≡ pick (eqb mark 1) (r.pages + opened) (get_or r.page (pick (eqb mark 2) u parent) 0)) where
      pages_here : r.pages + opened ≡ count_to w (has_mark m begins)
      pages_here = count_turn turn m mark r.pages opened h.pages_to mark-as opened-as

      page_here : page ≡ page_of t m w
      page_here =
          page_turn turn t m r.page mark (r.pages + opened) (pick (eqb mark 2) u parent) page h.page_to_lem h.page_none mark-as pages_here
          (back_is t m w mark u parent mark-as u_is parent_here) page-as

      pub page_fits : page < slots
      page_fits = omega (arith, page_here, page_of_le t m w, a.sound.count_high)

      pub weight_fits : get_or r.weights page 0 ≤ max_nodes * max_limit
      weight_fits = omega (arith, h.weights_to.at page page_fits, weight_most a m v page (omega arith), a.sound.count_high)

      pub layout_turn : {prior x link : ℕ} {good : Bool} {bad : Option ℕ} → prior ≡ mark_at m u
          → good ≡ good_case w mark u prior → bad ≡ option_or wrong (then_some (not good) w)
          → x ≡ weight_at t w → link ≡ next_at t w
          → LayoutTo t m w (set before link w)
          (record {
            parents = set r.parents w parent;
            page = set r.page w page;
            firsts = set r.firsts page (pick (eqb mark 1) w (get_or r.firsts page 0));
            lasts = set r.lasts page (pick (eqb mark 1 || eqb mark 2) w (get_or r.lasts page 0));
            weights = set r.weights page (get_or r.weights page 0 + x);
            pages = r.pages + opened;
          })
          bad
      layout_turn {prior} {x} {link} {good} {bad} prior-as good-as bad-as x-as link-as =
          let fits : w < slots = omega (arith, a.sound.count_high) in
          record {
            prevs =
                rw (plus turn)
                (prevs_turn t before v link h.prevs (rw (plus turn) at link-as) (next_fits link-as));
            parents_long = simp length-set h.parents_long;
            parents_to =
                rw (plus turn)
                (row_add (parent_at t) r.parents v parent h.parents_to (omega (arith, h.parents_long))
                (rw (plus turn) at parent_here));
            page_long = simp length-set h.page_long;
            page_to_lem =
                rw (plus turn)
                (row_add (page_of t m) r.page v page h.page_to_lem (omega (arith, h.page_long)) (rw (plus turn) at page_here));
            page_none = get_or-set_other r.page w 0 page 0 (omega (arith, low turn)) ∙ h.page_none;
            firsts_to =
                lasts_turn turn t m (has_mark m begins) r.firsts page _ h.firsts_to page_here page_fits
                (ap (λ (k : ℕ). pick (eqb k 1) w (get_or r.firsts page 0)) mark-as);
            lasts_to =
                lasts_turn turn t m (in_run m) r.lasts page _ h.lasts_to page_here page_fits
                (ap (λ (k : ℕ). pick (eqb k 1 || eqb k 2) w (get_or r.lasts page 0)) mark-as
                ∙ ap (λ (b : Bool). pick b w (get_or r.lasts page 0)) (in_run_lem m w));
            weights_to = weights_turn turn t m r.weights page x h.weights_to page_here page_fits x-as;
            pages_to = pages_here;
            bad_to = bad_turn turn t m wrong bad good h.bad_to (good_is t m w mark u prior good good-as mark-as u_is prior-as) bad-as;
          }

-- ---- The end

pub layout_end : {t m : List ℕ} {v : ℕ} {before : List ℕ} {r : Layout} {bad : Option ℕ} → AcceptedFacts t
    → LayoutTo t m v before r bad → v ≡ node_count t → IsLayout t m r × (bad ≡ bad_mark t m)
unfolding weight_to page_weight page_count bad_mark
layout_end {t} {m} {v} {before} {r} {bad} a h same =
    let all = rw same at h in
    let fits : (p : ℕ) → p ≤ page_count t m → p < slots =
    λ p high. omega (arith, page_count_le t m, a.sound.count_high) in (
      record {
        parents_are = all.parents_to;
        page_is = all.page_to_lem;
        firsts_are = λ good p low high. all.firsts_to.at p (fits p high) ∙ first_found a.sound m good p low high;
        lasts_are = λ good p low high. all.lasts_to.at p (fits p high) ∙ last_found a.sound m good p low high;
        weights_are = all.weights_to.at;
        pages_are = all.pages_to;
      },
      all.bad_to,
    )
