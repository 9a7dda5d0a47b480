-- A run as it is stretched to the left, child by child: what is kept of its members, which second plans it takes by
-- how many members have each gain, and what it makes of a cell.
-- Defines as_members, RunSums; choosing, counts_of; joins; nth_prev, block_at, ColumnWords, word_end, Fillable.
-- Proves sums_none, sums_joins, sums_more; choosing_start, choosing_take, choosing_down, choosing_room (one
-- choice a turn); run_figures, run_fits, run_stops, stops_none, fits_goes, over_stops; nth_prev_shift, nth_prev_le,
-- block_apart, cell_word_small.
-- Assumes nothing.
use Rattle.std.specs.Prelude.{ℕ, zero, suc, ◌+◌, ◌-◌, ◌*◌, ◌≤◌, ◌<◌, ◌≡◌, Bool, List, [], ◌∷◌, map, ◌⊎◌, length, set, ltb, replicate}
use Rattle.std.proofs.Math.Path.{refl, ap}
use Rattle.std.proofs.Common.{sym, ◌∙◌, true≢false, inl, inr, arith, mul-le-mul_right, get_or-set_same}
use Rattle.std.proofs.Math.Bool.{true, false}
use Rattle.std.proofs.Math.ListN.{get_or}
use Rattle.std.proofs.Math.Seq.{get_or-set_other}
use Rattle.std.proofs.Math.Dec.{eqb, leb}
use borrow.Author.Tests.{eqb-true, eqb-false, leb-true, le-leb, lt-leb, lt-ltb}
use Rattle.model.specs.Basics.{pick}
use Rattle.model.specs.Table.{max_nodes, max_limit}
use Rattle.model.specs.Steps.{Member, Child, rest_sum, gain_sum, taken_count, largest_gain, as_member, run_of, reduce}
use Rattle.model.specs.Steps.{lightest, stops_at}
use Rattle.theory.specs.Ranges.{pick_true, pick_false}
use Rattle.theory.specs.Reduce.{EachMember, GainFits, sum_of, least_sum, reduce_least, least_gain}
use Rattle.theory.specs.ReduceCount.{Sound, as_member-sound, has_gain, count_gain, count_gain_cons, Counted, Totals}
use Rattle.theory.specs.ReduceCount.{totals_of, take_up_to, take_up_to-room, by_count, by_count-room, reduce_by_count}
use Rattle.theory.specs.Lists.{zeros}
use Rattle.theory.specs.BestGreedy.{Gainful, run_of_goes}
use Rattle.theory.specs.SiblingsBack.{Earlier}
use Rattle.columns.specs.Cells.{Cell, page_word, lower, run_word, try_run, cell_at, longer_runs, GoodChild, GoodChildren}
use Rattle.columns.specs.Cells.{run_taken, entry_within, cell_entry}
use Rattle.columns.specs.CellsArrays.{EachGood, children_in}
use Rattle.columns.specs.CellsSums.{joined_sums}
use Rattle.columns.specs.declared.run.Sums.{Sums}
use Rattle.columns.specs.declared.nodes.Nodes.{Nodes}

-- ---- What is kept of a run

-- the members of a run, before any second plan is taken
abbrev pub as_members : List Child → List Member
as_members run = map as_member run

-- the sums of rests and gains, how many members have each gain, and a bound of the gains
pub record RunSums (K : ℕ) (run : List Child) (sums : Sums) : Type 0 where
  pub long : length run ≡ sums.len
  pub total_is : rest_sum (as_members run) ≡ sums.total
  pub gained_is : gain_sum (as_members run) ≡ sums.gained
  pub counts_are : (h : ℕ) → count_gain h (as_members run) ≡ get_or sums.counts h 0
  pub largest : largest_gain (as_members run) ≤ sums.top
  pub top_high : sums.top ≤ K
  pub good : GoodChildren K run

pub sums_none : (K n : ℕ)
    → RunSums K [] (record { len = 0; total = 0; gained = 0; top = 0; counts = replicate n 0 })
unfolding rest_sum gain_sum largest_gain count_gain sum_of GoodChildren
sums_none K n =
    record {
      long = refl;
      total_is = refl;
      gained_is = refl;
      counts_are = λ h. sym (zeros n h);
      largest = omega arith;
      top_high = omega arith;
      good = tt;
    }

count_le_length : (h : ℕ) (ms : List Member) → count_gain h ms ≤ length ms
unfolding count_gain sum_of pick
count_le_length h [] = omega arith
count_le_length h (m ∷ ms) = go (eqb m.gain h) (count_le_length h ms)
  where
    go : (b : Bool) → count_gain h ms ≤ length ms → pick b 1 0 + count_gain h ms ≤ length (m ∷ ms)
    go true p = omega arith
    go false p = omega arith

pub members_length : (run : List Child) → length (as_members run) ≡ length run
members_length [] = refl
members_length (k ∷ run) = ap suc (members_length run)

total_high : (K : ℕ) (run : List Child) → GoodChildren K run
    → (gain_sum (as_members run) ≤ rest_sum (as_members run)) × (rest_sum (as_members run) ≤ length run * K)
unfolding gain_sum rest_sum GoodChildren as_member
total_high K [] g = (omega arith, omega arith)
total_high K (k ∷ run) g =
    let ih = total_high K run g.1 in
    (omega (arith, g.0.fits, ih.0), omega (arith, g.0.light, ih.1))

pub members_sound : (K : ℕ) (run : List Child) → GoodChildren K run → EachMember Sound (as_members run)
unfolding EachMember GoodChildren
members_sound K [] g = tt
members_sound K (k ∷ run) g = (as_member-sound k g.0.fits, members_sound K run g.1)

members_fit : (K : ℕ) (run : List Child) → GoodChildren K run → EachMember GainFits (as_members run)
unfolding EachMember GoodChildren as_member
members_fit K [] g = tt
members_fit K (k ∷ run) g = (g.0.fits, members_fit K run g.1)

run_gainful : (K : ℕ) (run : List Child) → GoodChildren K run → Gainful run
unfolding GoodChildren
run_gainful K [] g = tt
run_gainful K (k ∷ run) g = (g.0.fits, run_gainful K run g.1)

members_fresh : (run : List Child) → taken_count (as_members run) ≡ 0
unfolding taken_count as_member pick
members_fresh [] = refl
members_fresh (k ∷ run) = omega (arith, members_fresh run)

module _ {K : ℕ} {run : List Child} {sums : Sums} (kept : RunSums K run sums) where
  pub sums_count : (h : ℕ) → get_or sums.counts h 0 ≤ sums.len
  sums_count h = omega (arith, kept.counts_are h, count_le_length h (as_members run), members_length run, kept.long)

  pub sums_gained : sums.gained ≤ sums.total
  sums_gained = omega (arith, (total_high K run kept.good).0, kept.total_is, kept.gained_is)

  pub sums_total : K ≤ max_limit → sums.total ≤ sums.len * max_limit
  sums_total h =
      let a : rest_sum (as_members run) ≤ length run * K = (total_high K run kept.good).1 in
      let b : K * length run ≤ max_limit * length run = mul-le-mul_right (length run) h in
      omega (arith, a, b, kept.total_is, kept.long)

  -- one more child may join: no sum is too large for its word
  pub sums_joins : K ≤ max_limit → sums.len ≤ max_nodes → (k : Child) → GoodChild K k
      → (k.gain ≤ max_limit) × (get_or sums.counts k.gain 0 < 65535) × (sums.len < 4294967295)
      × (sums.total + k.rest < 4294967296) × (sums.gained + k.gain < 4294967296)
  sums_joins h few k g =
      let sum = sums_total h in (
        omega (arith, g.light, g.fits),
        omega (arith, sums_count k.gain),
        omega arith,
        omega (arith, sum, g.light),
        omega (arith, sum, sums_gained, g.light, g.fits),
      )

  -- one more child on the left
  pub sums_more : (k : Child) → GoodChild K k → k.gain < length sums.counts
      → RunSums K (k ∷ run) (joined_sums sums k.rest k.gain)
  unfolding rest_sum gain_sum largest_gain as_member GoodChildren
  sums_more k g l =
      record {
        long = omega (arith, kept.long);
        total_is = omega (arith, kept.total_is);
        gained_is = omega (arith, kept.gained_is);
        counts_are = λ h. count_gain_cons h (as_member k) (as_members run) ∙ go h (eqb k.gain h) refl;
        largest = omega (arith, kept.largest);
        top_high = omega (arith, kept.top_high, g.light, g.fits);
        good = (g, kept.good);
      }
    where
      go : (h : ℕ) (b : Bool) → eqb k.gain h ≡ b
          → has_gain h (as_member k) + count_gain h (as_members run)
          ≡ get_or (set sums.counts k.gain (get_or sums.counts k.gain 0 + 1)) h 0
      go h true e =
          let same : k.gain ≡ h = eqb-true k.gain h e in
          let one : has_gain h (as_member k) ≡ 1 = pick_true (eqb k.gain h) 1 0 e in
          let now : get_or (set sums.counts k.gain (get_or sums.counts k.gain 0 + 1)) h 0 ≡ get_or sums.counts h 0 + 1 =
          rw (← same) (get_or-set_same sums.counts k.gain (get_or sums.counts k.gain 0 + 1) 0 l) in
          omega (arith, one, now, kept.counts_are h)
      go h false e =
          let other : k.gain ≡ h → ⊥ = eqb-false k.gain h e in
          let none : has_gain h (as_member k) ≡ 0 = pick_false (eqb k.gain h) 1 0 e in
          let now : get_or (set sums.counts k.gain (get_or sums.counts k.gain 0 + 1)) h 0 ≡ get_or sums.counts h 0 =
          get_or-set_other sums.counts k.gain h (get_or sums.counts k.gain 0 + 1) 0 (λ q. other (sym q)) in
          omega (arith, none, now, kept.counts_are h)

-- ---- Second plans, one choice a turn

-- what the choices left make of the figures: n more of the gain g, then c of each gain below it
unfoldable pub choosing : ℕ → ℕ → (ℕ → ℕ) → ℕ → Totals → Totals
choosing zero n c room s = s
choosing (suc g) n c room s = by_count g c room (take_up_to n (suc g) room s)

pub choosing_start : (g : ℕ) (c : ℕ → ℕ) (room : ℕ) (s : Totals) → by_count g c room s ≡ choosing g (c g) c room s
unfolding choosing by_count
choosing_start zero c room s = refl
choosing_start (suc g) c room s = refl

-- none of this gain is left
pub choosing_down : (g : ℕ) (c : ℕ → ℕ) (room : ℕ) (s : Totals) → 0 < g
    → choosing g 0 c room s ≡ choosing (g - 1) (c (g - 1)) c room s
unfolding choosing take_up_to
choosing_down zero c room s p = absurd (omega arith)
choosing_down (suc g) c room s p =
    let e : suc g - 1 ≡ g = omega arith in
    rw e (choosing_start g c room s)

-- one of this gain is taken
pub choosing_take : (g n : ℕ) (c : ℕ → ℕ) (room sum count : ℕ) → 0 < g → 0 < n → room < sum
    → choosing g n c room (record { sum = sum; count = count })
    ≡ choosing g (n - 1) c room (record { sum = sum - g; count = count + 1 })
unfolding choosing take_up_to pick
choosing_take zero n c room sum count p q over = absurd (omega arith)
choosing_take (suc g) zero c room sum count p q over = absurd (omega arith)
choosing_take (suc g) (suc n) c room sum count p q over =
    let e : suc n - 1 ≡ n = omega arith in
    let f : count + 1 ≡ suc count = omega arith in
    rw (e, f, lt-leb sum room over)

-- there is room
pub choosing_room : (g n : ℕ) (c : ℕ → ℕ) (room : ℕ) (s : Totals) → s.sum ≤ room → choosing g n c room s ≡ s
unfolding choosing
choosing_room zero n c room s h = refl
choosing_room (suc g) n c room s h = rw (take_up_to-room n (suc g) room s h) (by_count-room g c room s h)

pub choosing_none : (n : ℕ) (c : ℕ → ℕ) (room : ℕ) (s : Totals) → choosing 0 n c room s ≡ s
unfolding choosing
choosing_none n c room s = refl

abbrev pub counts_of : List ℕ → ℕ → ℕ
counts_of counts h = get_or counts h 0

module _ {K : ℕ} {run : List Child} {sums : Sums} (kept : RunSums K run sums) where
  -- the figures of the run's members, with the second plans taken
  pub run_figures : totals_of (run_of K run)
      ≡ choosing sums.top (counts_of sums.counts sums.top) (counts_of sums.counts) K (record { sum = sums.total; count = 0 })
  unfolding run_of totals_of
  run_figures =
      let counted : Counted sums.top (counts_of sums.counts) (as_members run) =
      record {
        sound = members_sound K run kept.good;
        below = kept.largest;
        counts = λ h p q. kept.counts_are h;
      } in
      reduce_by_count sums.top (counts_of sums.counts) K (as_members run) counted
      ∙ rw (kept.total_is, members_fresh run)
      (choosing_start sums.top (counts_of sums.counts) K (record { sum = sums.total; count = 0 }))

  -- whether stretching stops at the run
  pub run_stops : stops_at K run ≡ ltb K (sums.total - sums.gained)
  unfolding stops_at lightest
  run_stops = rw (kept.total_is, kept.gained_is)

  -- where it does, the run is no candidate
  pub stops_none : stops_at K run ≡ true → (n before : ℕ) (c : Cell) → try_run K (run_of K run) n before c ≡ c
  unfolding try_run pick
  stops_none e n before c = go (leb (rest_sum (run_of K run)) K) refl
    where
      go : (b : Bool) → leb (rest_sum (run_of K run)) K ≡ b
          → pick b (lower (run_word (run_of K run) before) n c) c ≡ c
      go true h =
          absurd (true≢false (sym e ∙ run_of_goes K run (run_gainful K run kept.good) (leb-true _ K h)))
      go false h = refl

  module _ (sum taken : ℕ) (is : totals_of (run_of K run) ≡ record { sum = sum; count = taken }) where
    sum_is : rest_sum (run_of K run) ≡ sum
    unfolding totals_of
    sum_is = ap (λ f. f.sum) is

    taken_is : taken_count (run_of K run) ≡ taken
    unfolding totals_of
    taken_is = ap (λ f. f.count) is

    pub run_taken_le : taken ≤ sums.len
    run_taken_le = omega (arith, taken_is, run_taken K run, kept.long)

    -- the run is a candidate
    pub run_fits : sum ≤ K → (n before : ℕ) (c : Cell)
        → try_run K (run_of K run) n before c ≡ lower (before + (1 + taken) * page_word) n c
    unfolding try_run pick
    run_fits h n before c = rw (sum_is, taken_is, le-leb sum K h)

    -- and stretching goes on
    pub fits_goes : sum ≤ K → stops_at K run ≡ false
    fits_goes h = run_of_goes K run (run_gainful K run kept.good) (omega (arith, sum_is))

    -- it is none: its lightest total is over the limit
    pub over_stops : K < sum → stops_at K run ≡ true
    unfolding stops_at lightest run_of
    over_stops h = go (reduce_least K (as_members run))
      where
        go : (rest_sum (reduce K (as_members run)) ≤ K)
            ⊎ (rest_sum (reduce K (as_members run)) ≡ least_sum (as_members run)) → stops_at K run ≡ true
        go (inl l) = absurd (omega (arith, sum_is))
        go (inr e) =
            lt-ltb K (rest_sum (as_members run) - gain_sum (as_members run))
            (omega (arith, sum_is, least_gain (as_members run) (members_fit K run kept.good)))

-- ---- Stretching to the left

-- the next child on the left joins the run of so many
unfoldable pub joins : ℕ → ℕ → List Child → ℕ → List Child → Cell → Cell
joins K s run len [] c = c
joins K s run len (k ∷ ks) c =
    longer_runs K s (k ∷ run) (suc len) ks (try_run K (run_of K (k ∷ run)) (suc len) (cell_at K ks s).word c)

pub longer_stops : (K s : ℕ) (run : List Child) (len : ℕ) (ks : List Child) (c : Cell) → stops_at K run ≡ true
    → longer_runs K s run len ks c ≡ c
unfolding longer_runs pick
longer_stops K s run len [] c e = refl
longer_stops K s run len (k ∷ ks) c e = rw e

pub longer_goes : (K s : ℕ) (run : List Child) (len : ℕ) (ks : List Child) (c : Cell) → stops_at K run ≡ false
    → longer_runs K s run len ks c ≡ joins K s run len ks c
unfolding longer_runs joins pick
longer_goes K s run len [] c e = refl
longer_goes K s run len (k ∷ ks) c e = rw e

-- the n-th sibling before node u
unfoldable pub nth_prev : List ℕ → ℕ → ℕ → ℕ
nth_prev prevs zero u = u
nth_prev prevs (suc n) u = get_or prevs (nth_prev prevs n u) 0

pub nth_prev_shift : (prevs : List ℕ) (n u : ℕ) → nth_prev prevs (suc n) u ≡ nth_prev prevs n (get_or prevs u 0)
unfolding nth_prev
nth_prev_shift prevs zero u = refl
nth_prev_shift prevs (suc n) u = ap (λ w. get_or prevs w 0) (nth_prev_shift prevs n u)

-- where the block of node c begins
abbrev pub block_at : ℕ → ℕ → ℕ
block_at K c = c * (2 * (K + 1))

pub block_apart : (K u c : ℕ) → u < c → block_at K u + 2 * (K + 1) ≤ block_at K c
block_apart K u c h =
    let m : suc u * (2 * (K + 1)) ≤ c * (2 * (K + 1)) = mul-le-mul_right (2 * (K + 1)) h in
    omega (arith, m)

pub nth_prev_le : (prevs : List ℕ) → Earlier prevs → get_or prevs 0 0 ≡ 0 → (n u : ℕ) → nth_prev prevs n u ≤ u
unfolding nth_prev
nth_prev_le prevs earlier z zero u = omega arith
nth_prev_le prevs earlier z (suc n) u = go (eqb (nth_prev prevs n u) 0) refl (nth_prev_le prevs earlier z n u)
  where
    go : (b : Bool) → eqb (nth_prev prevs n u) 0 ≡ b → nth_prev prevs n u ≤ u → get_or prevs (nth_prev prevs n u) 0 ≤ u
    go true e ih = let q : nth_prev prevs n u ≡ 0 = eqb-true _ _ e in rw q (omega arith)
    go false e ih =
        let d : nth_prev prevs n u ≡ 0 → ⊥ = eqb-false _ _ e in
        omega (arith, earlier (nth_prev prevs n u) (omega arith))

-- the words of a block are those of the cells after the children ks, from a start on
abbrev pub ColumnWords : ℕ → ℕ → List ℕ → ℕ → List Child → Type 0
ColumnWords K start xs here ks = (s : ℕ) → start ≤ s → s ≤ K → get_or xs (here + s) 0 ≡ (cell_at K ks s).word

-- above the word of every cell: at most two pages a child, and a rest below a page
abbrev pub word_end : ℕ
word_end = (2 * max_nodes + 1) * page_word

pub cell_word_small : (K : ℕ) → K ≤ max_limit → (ks : List Child) (s : ℕ) → s ≤ K → GoodChildren K ks
    → length ks ≤ max_nodes
    → (cell_at K ks s).word < word_end
cell_word_small K h ks s high good short =
    let a = cell_entry K (omega arith) ks s high good short in
    omega (arith, a.word, a.high, (entry_within K ks s high).count_high)

-- the columns of the siblings before node c are in the block of each, and the block of c is within the words
pub record Fillable (K start c : ℕ) (nodes : Nodes) (xs : List ℕ) : Type 0 where
  pub node_low : 1 ≤ c
  pub node_high : c ≤ max_nodes
  pub limit_high : K ≤ max_limit
  pub room : block_at K c + 2 * (K + 1) ≤ length xs
  pub earlier : Earlier nodes.prevs
  pub none : get_or nodes.prevs 0 0 ≡ 0
  pub good : EachGood K nodes
  pub columns : (n : ℕ) → ColumnWords K start xs (block_at K (nth_prev nodes.prevs (suc n) c))
      (children_in nodes (nth_prev nodes.prevs (suc n) c))
