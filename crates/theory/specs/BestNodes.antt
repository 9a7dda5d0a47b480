-- The node theorem: the figures of a node, from its children's, mean to its parent what its children's mean to it.
-- Defines best_entry, second_entry, SecondPlan, NoBetter. Proves node_best, node_second (what its best and its second
-- plan are), node_left (what it leaves at least), node_least (no plan of it is better), children_fair (the figures
-- of a chain). Assumes nothing.
use Rattle.std.specs.Prelude.{ℕ, ◌+◌, ◌-◌, ◌≤◌, ◌<◌, ◌≡◌, refl, Bool, true, false, List, [], ◌∷◌, leb}
use Rattle.std.proofs.Common.{arith, leb-true, leb-false}
use Rattle.model.specs.Basics.{pick}
use Rattle.model.specs.Table.{Chain, end, node}
use Rattle.model.specs.Steps.{Child, Choice, Entry, entry_at, second_start, gain_of, child_of, children_from, siblings_by}
use Rattle.theory.specs.PlanShape.{EachWithin}
use Rattle.theory.specs.BestLevel.{Fair, RunSoFar, Level, lighter_plan}
use Rattle.theory.specs.BestEntries.{Usable, entry_sound, entry_least}

-- the entry of a node's best plan, and that of its second
abbrev pub best_entry : ℕ → ℕ → List Child → Entry
best_entry K w ks = entry_at K ks w

abbrev second_entry : ℕ → ℕ → List Child → Entry
second_entry K w ks = entry_at K ks (second_start K w (best_entry K w ks).rest)

pub node_rest : (gains : Bool) (K w : ℕ) (ks : List Child) → (child_of gains K w ks).rest ≡ (best_entry K w ks).rest
unfolding child_of
node_rest gains K w ks = refl

-- how a node comes to its gain g
data GainCase (K w W : ℕ) (e : Entry) : Bool → ℕ → Type 0 where
  without : {g : ℕ} → g ≡ 0 → GainCase K w W e false g
  full : {g : ℕ} → K < second_start K w W → g ≡ 0 → GainCase K w W e true g
  gained : {g : ℕ} → second_start K w W ≤ K → g ≡ W - (e.rest - (K - W + 1)) → GainCase K w W e true g

gain_case : (gains : Bool) (K w : ℕ) (ks : List Child)
    → GainCase K w (best_entry K w ks).rest (second_entry K w ks) gains (child_of gains K w ks).gain
unfolding child_of gain_of pick
gain_case false K w ks = without refl
gain_case true K w ks = ask (leb (second_start K w (best_entry K w ks).rest) K) refl
  where
    ask : (b : Bool) → leb (second_start K w (best_entry K w ks).rest) K ≡ b
        → GainCase K w (best_entry K w ks).rest (second_entry K w ks) true
        (pick b ((best_entry K w ks).rest - ((second_entry K w ks).rest - (K - (best_entry K w ks).rest + 1))) 0)
    ask true h = gained (leb-true _ K h) refl
    ask false h = full (leb-false _ K h) refl

second_start_is : (K w W : ℕ) → second_start K w W ≡ w + (K - W) + 1
unfolding second_start
second_start_is K w W = refl

-- a plan of a node's children: one page more than its best plan, and g less of rest
pub record SecondPlan (K w : ℕ) (ks : List Child) (g : ℕ) : Type 0 where
  pub sum : ℕ
  pub run : RunSoFar
  pub level : Level K ks (second_entry K w ks).choices (second_entry K w ks).count sum run
  pub more : (second_entry K w ks).count ≡ (best_entry K w ks).count + 1
  pub start : (second_entry K w ks).rest ≡ second_start K w (best_entry K w ks).rest + sum
  pub total : w + sum + g ≡ (best_entry K w ks).rest
  pub gain : 1 ≤ g

-- no plan with n pages of the children and x that stays is better than the node's figures
pub record NoBetter (n x : ℕ) (e : Entry) (w g : ℕ) : Type 0 where
  pub count : e.count ≤ n
  pub rest : n ≤ e.count → e.rest ≤ w + x
  pub gain : n ≤ e.count + 1 → e.rest ≤ w + x + g

module _ (K w : ℕ) (ks : List Child) (f : Fair K ks) (h : w ≤ K) where
  -- the rest of its best plan
  abbrev W : ℕ
  W = (best_entry K w ks).rest

  pub node_best : Usable K w ks (best_entry K w ks)
  node_best = entry_sound K ks f w h

  second_plan : second_start K w W ≤ K → SecondPlan K w ks (W - ((second_entry K w ks).rest - (K - W + 1)))
  second_plan l =
      let s : ℕ = second_start K w W in
      let e : s ≡ w + (K - W) + 1 = second_start_is K w W in
      let b = node_best in
      let r = entry_sound K ks f s l in
      let i = lighter_plan f b.level (omega arith) in
      let fewest = entry_least w f r.level (omega arith) in
      let most = entry_least s f i.level (omega arith) in
      let differ : (second_entry K w ks).count ≡ (best_entry K w ks).count → ⊥ =
      λ q. omega (arith, fewest.rest (omega arith)) in
      record {
        sum = r.sum;
        run = r.run;
        level = r.level;
        more = omega arith;
        start = r.total;
        total = omega arith;
        gain = omega arith;
      }

  pub node_second : (gains : Bool) → 1 ≤ (child_of gains K w ks).gain → SecondPlan K w ks (child_of gains K w ks).gain
  node_second gains p = ask (gain_case gains K w ks) p
    where
      ask : {b : Bool} {g : ℕ} → GainCase K w W (second_entry K w ks) b g → 1 ≤ g → SecondPlan K w ks g
      ask (without e) p = absurd (omega arith)
      ask (full l e) p = absurd (omega arith)
      ask (gained l e) p = rw e (second_plan l)

  -- whatever plan a node follows, it leaves at least its own weight
  pub node_left : (gains : Bool) → w + (child_of gains K w ks).gain ≤ W
  node_left gains = ask (gain_case gains K w ks)
    where
      ask : {c : Bool} {g : ℕ} → GainCase K w W (second_entry K w ks) c g → w + g ≤ W
      ask (without e) = omega (arith, node_best.total)
      ask (full l e) = omega (arith, node_best.total)
      ask (gained l e) = rw e (omega (arith, (second_plan l).total))

  pub node_least : {n x : ℕ} {cs : List Choice} {o : RunSoFar} → Level K ks cs n x o → w + x ≤ K
      → NoBetter n x (best_entry K w ks) w (child_of true K w ks).gain
  node_least {n} {x} l u =
      let b = entry_least w f l u in
      record { count = b.count; rest = b.rest; gain = λ i. gain_least i (gain_case true K w ks) }
    where
      gaining : {g : ℕ} → SecondPlan K w ks g → n ≤ (best_entry K w ks).count + 1
          → (t : Bool) → leb W (w + x) ≡ t → W ≤ w + x + g
      gaining p i true e = omega (arith, leb-true W (w + x) e)
      gaining p i false e =
          let s = second_start_is K w W in
          let b = entry_least (second_start K w W) f l (omega (arith, leb-false W (w + x) e, node_best.within)) in
          omega (arith, p.start, p.total, b.rest (omega (arith, p.more)))

      gain_least : {g : ℕ} → n ≤ (best_entry K w ks).count + 1 → GainCase K w W (second_entry K w ks) true g
          → W ≤ w + x + g
      gain_least i (full c e) = omega (arith, node_best.within, second_start_is K w W)
      gain_least i (gained c e) = rw e (gaining (second_plan c) i (leb W (w + x)) refl)

-- ---- The figures of a chain

pub children_fair : (gains : Bool) (K : ℕ) (c : Chain) (before : List Child) → EachWithin K c → Fair K before
    → Fair K (children_from gains K c before)
unfolding siblings_by EachWithin
children_fair gains K end before e f = f
children_fair gains K (node w l kids next) before e f =
    let ks : List Child = children_from gains K kids [] in
    let g : Fair K ks = children_fair gains K kids [] e.1 tt in
    let rest = node_rest gains K w ks in
    children_fair gains K next (child_of gains K w ks ∷ before) e.2
    (omega (arith, (node_best K w ks g e.0).within), omega (arith, node_left K w ks g e.0 gains), f)
