-- A run's marks, from its last member back, one a turn. Defines Marking, Levelled. Proves levelled, count_less,
-- sum_ready, level_small, marking_start, marking_high, marking_low, marking_takes, marking_turn and marking_end.
-- Assumes nothing.
use Prim.Native.Nat.{ℕ, suc, ◌+◌, ◌-◌, ◌≤◌, ◌<◌}
use mathlib.Core.Path.{◌≡◌, refl, sym, ◌∙◌, ap, ap₂}
use mathlib.Core.Bool.{Bool, true, false, ◌&&◌, ◌||◌, false≢true}
use mathlib.Core.Logic.{◌⊎◌, inl, inr}
use mathlib.Core.List.{List, [], ◌∷◌, ◌++◌, reverse, append_assoc, append-nil}
use native.Mathlib.Omega.{arith}
use lib.ListN.{length, get_or, set, length-set}
use lib.Dec.{eqb, ltb}
use borrow.Author.Tests.{eqb-true, eqb-false, eq-eqb, ne_eqb, ltb-true}
use Rattle.model.specs.Basics.{pick}
use Rattle.model.specs.Table.{max_limit, slots}
use Rattle.model.specs.Plan.{begins}
use Rattle.model.specs.Steps.{Child, Choice, run_choices}
use Rattle.theory.specs.ReduceCount.{count_gain}
use Rattle.best.specs.CellsLevel.{level_from, level_from_bound, take_down_to}
use Rattle.columns.specs.Cells.{last_children}
use Rattle.columns.specs.CellsArrays.{children_in, child_in, children_cons}
use Rattle.columns.specs.CellsRun.{as_members, RunSums, counts_of, nth_prev, nth_prev_le}
use Rattle.best.specs.LayChoices.{takes, last_mark, choices_by_level, choices_by_level-run, run_level, count_back}
use Rattle.best.specs.LayChosen.{LaidRun}
use Rattle.best.specs.declared.lay.GainLevel.{GainLevel}
use Rattle.columns.specs.declared.run.Sums.{Sums}
use Rattle.columns.specs.declared.nodes.Nodes.{Nodes}
use Rattle.best.specs.LayContracts.{run_choices_back, SecondsGain, SumReady, SumDone, RunReady, RunDone}
use Rattle.best.proofs.LayRuns.{children_low, children_nodes, laid_none, laid_one, laid_then, seconds_gain_set}

-- ---- A member that is taken has a gain

takes_gain : (g t n gain : ℕ) → (g ≡ 0 → t ≡ 0) → takes g t n gain ≡ true → 1 ≤ gain
takes_gain g t n gain h = go (ltb g gain) (eqb gain g) (ltb n t) refl refl refl
  where
    go : (a b d : Bool) → ltb g gain ≡ a → eqb gain g ≡ b → ltb n t ≡ d → (a || (b && d)) ≡ true → 1 ≤ gain
    go true b d p q r e = let l : g < gain = ltb-true g gain p in omega arith
    go false true true p q r e = some (eqb g 0) refl
      where
        some : (z : Bool) → eqb g 0 ≡ z → 1 ≤ gain
        some true y = let none : t ≡ 0 = h (eqb-true g 0 y) in absurd (omega (arith, ltb-true n t r))
        some false y = let d : g ≡ 0 → ⊥ = eqb-false g 0 y in omega (arith, eqb-true gain g q)
    go false true false p q r e = absurd (false≢true e)
    go false false d p q r e = absurd (false≢true e)

-- one less where the member is at the level
pub count_less : (gain g before before' : ℕ)
    → ((gain ≡ g) × (before' ≡ before - 1)) ⊎ ((gain ≡ g → ⊥) × (before' ≡ before))
    → before' ≡ before - pick (eqb gain g) 1 0
unfolding pick
count_less gain g before before' (inl w) = rw (eq-eqb gain g w.0) w.1
count_less gain g before before' (inr w) = rw (ne_eqb gain g w.0) (omega (arith, w.1))

-- what the sums of a run ask for
pub sum_ready : {K c n : ℕ} {nodes : Nodes} {marks : List ℕ} {seconds : List Bool}
    → RunReady K c n nodes marks seconds → SumReady c n nodes
sum_ready r =
    record {
      high = omega (arith, r.high, r.short);
      earlier = r.earlier;
      none = r.none;
      good = λ u. record { light = omega (arith, (r.good u).light, r.limit_high); fits = (r.good u).fits };
      within = r.within;
    }

-- ---- One member a turn

-- `left` members are left, of which `before` have the level's gain g; the level takes the earliest t of those
pub record Marking (nodes : Nodes) (c n g t : ℕ) (marks : List ℕ) (seconds : List Bool) (marks' : List ℕ)
    (seconds' : List Bool) (before left next : ℕ) : Type 0 where
  pub done : ℕ
  pub choices : List Choice
  pub sum : done + left ≡ n
  pub at : next ≡ nth_prev nodes.prevs done c
  pub within : left ≤ length (children_in nodes next)
  pub count : before ≡ count_gain g (as_members (last_children left [] (children_in nodes next)))
  pub laid : LaidRun nodes.prevs done c choices marks seconds marks' seconds'
  pub rest : choices ++ choices_by_level g t before left (children_in nodes next)
      ≡ choices_by_level g t (count_gain g (as_members (last_children n [] (children_in nodes c)))) n
      (children_in nodes c)
  pub seconds_gain : SecondsGain nodes.gains seconds'
  pub wide : length seconds' ≡ slots

-- the sums of the run, and the level of its gains
pub record Levelled (K c n : ℕ) (nodes : Nodes) (sums : Sums) (level : GainLevel) : Type 0 where
  pub kept : RunSums K (last_children n [] (children_in nodes c)) sums
  pub level_is : level ≡ level_from sums.top (counts_of sums.counts) K sums.total

-- from what the sums and the level of a run are promised to be
pub levelled : {K c n : ℕ} {nodes : Nodes} {marks : List ℕ} {seconds : List Bool} {sums : Sums} {level : GainLevel}
    → RunReady K c n nodes marks seconds → SumDone c n nodes sums
    → level ≡ level_from sums.top (counts_of sums.counts) K sums.total
    → Levelled K c n nodes sums level
levelled {K} ready sums level = record { kept = sums K ready.good; level_is = level }

module _ {K c n : ℕ} {nodes : Nodes} {marks : List ℕ} {seconds : List Bool}
    (ready : RunReady K c n nodes marks seconds) where
  abbrev children : ℕ → List Child
  children u = children_in nodes u

  -- the run
  abbrev run : List Child
  run = last_children n [] (children c)

  -- the member that is next
  module _ {g t : ℕ} {marks' : List ℕ} {seconds' : List Bool} {before left next : ℕ}
      (m : Marking nodes c n g t marks seconds marks' seconds' before left next) where
    pub marking_high : next ≤ length marks
    marking_high = omega (arith, m.at, nth_prev_le nodes.prevs ready.earlier ready.none m.done c, ready.high)

    module _ (some : left ≡ 0 → ⊥) where
      pub marking_low : 1 ≤ next
      marking_low = children_low nodes ready.earlier next (omega (arith, m.within))

      shape : children next ≡ child_in nodes next ∷ children (get_or nodes.prevs next 0)
      shape = children_cons nodes ready.earlier next marking_low

      -- how many at the level come before it
      counted : before ≡ count_gain g (as_members (last_children (left - 1) [] (children (get_or nodes.prevs next 0))))
          + pick (eqb (get_or nodes.gains next 0) g) 1 0
      counted =
          let e : left ≡ suc (left - 1) = omega arith in
          m.count
          ∙ ap₂ (λ k ks. count_gain g (as_members (last_children k [] ks))) e shape
          ∙ count_back g (left - 1) (child_in nodes next) (children (get_or nodes.prevs next 0))

      pub marking_takes : get_or nodes.gains next 0 ≡ g → 1 ≤ before
      unfolding pick
      marking_takes e =
          let one : ◌≡◌ {A = ℕ} (pick (eqb (get_or nodes.gains next 0) g) 1 0) 1 = rw (eq-eqb (get_or nodes.gains next 0) g e) refl in
          omega (arith, counted, one)

  module _ {sums : Sums} {level : GainLevel} (v : Levelled K c n nodes sums level) where
    abbrev g : ℕ
    g = level.gain

    abbrev t : ℕ
    t = level.times

    pub level_small : g ≤ max_limit
    level_small =
        let most = (level_from_bound sums.top (counts_of sums.counts) K sums.total).most in
        omega (arith, ap (λ x. x.gain) v.level_is, most, v.kept.top_high, ready.limit_high)

    pub marking_start : Marking nodes c n g t marks seconds marks seconds (get_or sums.counts g 0) n c
    unfolding nth_prev
    marking_start =
        let same : get_or sums.counts g 0 ≡ count_gain g (as_members run) = sym (v.kept.counts_are g) in
        record {
          done = 0;
          choices = [];
          sum = omega arith;
          at = refl;
          within = ready.within;
          count = same;
          laid = laid_none nodes.prevs c marks seconds;
          rest = ap (λ k. choices_by_level g t k n (children c)) same;
          seconds_gain = ready.seconds_gain;
          wide = ready.wide;
        }

    module _ {marks' : List ℕ} {seconds' : List Bool} {before left next : ℕ}
        (m : Marking nodes c n g t marks seconds marks' seconds' before left next) where
      pub marking_turn : (left ≡ 0 → ⊥) → (before' mark : ℕ) (second : Bool)
          → before' ≡ before - pick (eqb (get_or nodes.gains next 0) g) 1 0 → mark ≡ last_mark (left - 1)
          → second ≡ takes g t before' (get_or nodes.gains next 0)
          → Marking nodes c n g t marks seconds (set marks' (next - 1) mark)
          (set seconds' next second) before' (left - 1) (get_or nodes.prevs next 0)
      unfolding nth_prev choices_by_level
      marking_turn some before' mark second b a s =
          let gain : ℕ = get_or nodes.gains next 0 in
          let low = marking_low m some in
          let high = marking_high m in
          let ch : Choice = record { mark = last_mark (left - 1); second = takes g t before' gain } in
          let laid_ch : Choice = record { mark = mark; second = second } in
          let short : next < length seconds' = omega (arith, m.wide, high, ready.short) in
          let same : laid_ch ≡ ch = ap₂ (λ x y. record { mark = x; second = y }) a s in
          let alone : LaidRun nodes.prevs 1 next (laid_ch ∷ []) marks' seconds' (set marks' (next - 1) mark)
          (set seconds' next second) =
          laid_one nodes.prevs next marks' seconds' mark second low (omega (arith, m.laid.long, high)) short in
          let one : LaidRun nodes.prevs 1 next (ch ∷ []) marks' seconds' (set marks' (next - 1) mark)
          (set seconds' next second) = rw same at alone in
          let more : m.done + 1 ≡ suc m.done = omega arith in
          let less : left ≡ suc (left - 1) = omega arith in
          let step : ch ∷ choices_by_level g t before' (left - 1) (children (get_or nodes.prevs next 0))
          ≡ choices_by_level g t before left (children next) =
          sym
          (ap₂ (choices_by_level g t before) less (shape m some)
          ∙ ap (λ k. record { mark = last_mark (left - 1); second = takes g t k gain }
          ∷ choices_by_level g t k (left - 1) (children (get_or nodes.prevs next 0))) (sym b)) in
          let none : g ≡ 0 → t ≡ 0 =
          λ z. ap (λ x. x.times) v.level_is
          ∙ (level_from_bound sums.top (counts_of sums.counts) K sums.total).none (sym (ap (λ x. x.gain) v.level_is) ∙ z) in
          record {
            done = m.done + 1;
            choices = m.choices ++ (ch ∷ []);
            sum = omega (arith, m.sum);
            at = ap (λ u. get_or nodes.prevs u 0) m.at ∙ sym (ap (λ k. nth_prev nodes.prevs k c) more);
            within = omega (arith, m.within, ap length (shape m some));
            count = omega (arith, counted m some);
            laid = laid_then ready.earlier
                (λ j l. children_nodes nodes ready.earlier j c (omega (arith, m.sum, ready.within)))
                m.at m.laid one;
            rest = append_assoc m.choices (ch ∷ [])
                (choices_by_level g t before' (left - 1) (children (get_or nodes.prevs next 0)))
                ∙ ap (λ l. m.choices ++ l) step
                ∙ m.rest;
            seconds_gain = seconds_gain_set nodes.gains seconds' next second short m.seconds_gain
                (λ e. takes_gain g t before' gain none (sym s ∙ e));
            wide = simp length-set m.wide;
          }

      pub marking_end : left ≡ 0 → RunDone K c n nodes marks seconds marks' seconds' next
      unfolding choices_by_level
      marking_end z =
          let all : m.done ≡ n = omega (arith, m.sum) in
          let whole : m.choices ≡ run_choices_back K n (children c) =
          sym (append-nil m.choices)
          ∙ ap (λ k. m.choices ++ choices_by_level g t before k (children next)) (sym z)
          ∙ m.rest
          ∙ choices_by_level-run g t n (children c) ready.within
          ∙ ap (λ x. reverse (run_choices begins (take_down_to x.gain x.times (as_members run)))) v.level_is
          ∙ ap (λ ms. reverse (run_choices begins ms)) (sym (run_level v.kept)) in
          record {
            laid = rw (all, whole) at m.laid;
            wide = m.wide;
            seconds_gain = m.seconds_gain;
            next = rw all at m.at;
          }
