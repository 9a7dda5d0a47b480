-- The runs that end at a child, each by one member longer than the one before. Defines last_children_in (a run's
-- members), Stretch (what holds while the runs are tried; Joins and Tries say what is left to do) and Taking (while
-- second plans are taken). Proves the turns of both loops and the ways out: stretch_start, taking_start, taking_some,
-- taking_down, taking_more, stretch_again, stretch_end, stops_end; and what the calls ask for. Assumes nothing.
use Prim.Native.Nat.{ℕ, zero, suc, ◌+◌, ◌-◌, ◌*◌, ◌≤◌, ◌<◌}
use mathlib.Core.Path.{◌≡◌, refl, sym, ◌∙◌, ap}
use mathlib.Core.Bool.{Bool, true, false, true≢false}
use mathlib.Core.List.{List, [], ◌∷◌}
use native.Mathlib.Omega.{arith}
use native.Mathlib.Numerals.{add-one}
use lib.ListN.{length, get_or, length-set, length-replicate}
use lib.Dec.{leb}
use borrow.Author.Tests.{leb-true, le-ltb, lt-ltb}
use Rattle.model.specs.Basics.{pick}
use Rattle.model.specs.Table.{max_nodes, max_limit}
use Rattle.model.specs.Steps.{Child, run_of}
use Rattle.theory.specs.ReduceCount.{totals_of}
use Rattle.columns.specs.Cells.{Cell, page_word, no_word, lower, try_run, stay_cell, cell_at, longer_runs}
use Rattle.columns.specs.CellsArrays.{child_in, children_in, children_none, children_cons, children_good}
use Rattle.columns.specs.CellsArrays.{children_length, cell_in, Swept}
use Rattle.columns.specs.CellsRun.{RunSums, sums_none, sums_count, sums_gained, sums_total, sums_more, sums_joins}
use Rattle.columns.specs.CellsRun.{choosing, choosing_down, choosing_take, choosing_room, choosing_none, counts_of}
use Rattle.columns.specs.CellsRun.{run_figures, run_stops, stops_none, run_taken_le, run_fits, fits_goes, over_stops}
use Rattle.columns.specs.CellsRun.{joins, longer_stops, longer_goes, nth_prev, nth_prev_shift, block_at, nth_prev_le}
use Rattle.columns.specs.CellsRun.{block_apart, ColumnWords, word_end, cell_word_small, Fillable}
use Rattle.columns.specs.declared.run.Sums.{Sums}
use Rattle.columns.specs.CellsSums.{gain_slots, no_sums, joined_sums}
use Rattle.columns.specs.declared.nodes.Nodes.{Nodes}

-- the last n of the children up to node c, the earliest first
unfoldable pub last_children_in : Nodes → ℕ → ℕ → List Child
last_children_in nodes zero c = []
last_children_in nodes (suc n) c =
    child_in nodes (nth_prev nodes.prevs n c) ∷ last_children_in nodes n c

-- The run of so many children up to c, where `next` is the child before it: its sums, and words that differ from
-- those at entry in the block of c only, where each cell leads to the one that is sought.
pub record Stretch (K start c : ℕ) (nodes : Nodes) (xs : List ℕ)
    (leads : List Child → ℕ → List Child → ℕ → Cell → Cell) (ys : List ℕ) (sums : Sums) (next : ℕ) : Type 0 where
  pub fillable : Fillable K start c nodes ys
  pub next_is : next ≡ nth_prev nodes.prevs sums.len c
  pub short : sums.len + next ≤ c
  pub kept : RunSums K (last_children_in nodes sums.len c) sums
  pub wide : length sums.counts ≡ gain_slots
  pub long : length ys ≡ length xs
  pub below : (i : ℕ) → i < block_at K c → get_or ys i 0 ≡ get_or xs i 0
  pub above : (i : ℕ) → block_at K c + 2 * (K + 1) ≤ i → get_or ys i 0 ≡ get_or xs i 0
  pub cells : (s : ℕ) → start ≤ s → s ≤ K
      → leads (last_children_in nodes sums.len c) sums.len (children_in nodes next) s
      (cell_in ys K (block_at K c) s)
      ≡ cell_at K (children_in nodes c) s

-- the child before the run is to join it; the run is to be tried
abbrev pub Joins : ℕ → List Child → ℕ → List Child → ℕ → Cell → Cell
Joins K run len ks s cell = joins K s run len ks cell

abbrev pub Tries : ℕ → List Child → ℕ → List Child → ℕ → Cell → Cell
Tries K run len ks s cell = longer_runs K s run len ks (try_run K (run_of K run) len (cell_at K ks s).word cell)

-- the run is being tried, and second plans are being taken: the choices left lead to the run's figures
pub record Taking (K start c : ℕ) (nodes : Nodes) (xs ys : List ℕ) (sums : Sums) (next sum taken gain left : ℕ) : Type 0
  where
    pub tried : Stretch K start c nodes xs (Tries K) ys sums next
    pub some : 1 ≤ sums.len
    pub figures : totals_of (run_of K (last_children_in nodes sums.len c))
        ≡ choosing gain left (counts_of sums.counts) K (record { sum = sum; count = taken })
    pub gain_high : gain ≤ K
    pub taken_high : taken + sum ≤ sums.total

nth_prev-below : {K start c : ℕ} {nodes : Nodes} {xs : List ℕ} → Fillable K start c nodes xs → (n : ℕ)
    → nth_prev nodes.prevs (suc n) c < c
nth_prev-below {c = c} {nodes = nodes} f n =
    let le = nth_prev_le nodes.prevs f.earlier f.none n (get_or nodes.prevs c 0) in
    omega (arith, nth_prev_shift nodes.prevs n c, le, f.earlier c f.node_low)

-- the siblings' columns still stand where the block of c was swept
fillable_swept : {K start c : ℕ} {nodes : Nodes} {xs ys : List ℕ} {g : ℕ → Cell} → Fillable K start c nodes xs
    → Swept K start (block_at K c) g xs ys
    → Fillable K start c nodes ys
fillable_swept {K} {start} {c} {nodes} f w =
    record {
      node_low = f.node_low;
      node_high = f.node_high;
      limit_high = f.limit_high;
      room = omega (arith, f.room, w.long);
      earlier = f.earlier;
      none = f.none;
      good = f.good;
      columns = λ n s p q.
          w.below (block_at K (nth_prev nodes.prevs (suc n) c) + s)
          (omega (arith, block_apart K (nth_prev nodes.prevs (suc n) c) c (nth_prev-below f n)))
          ∙ f.columns n s p q;
    }

-- ---- The child stays

module _ {K start c : ℕ} {nodes : Nodes} {xs : List ℕ} (f : Fillable K start c nodes xs) where
  -- the words at entry that a child that stays asks for
  stay_words : (s : ℕ) → start ≤ s
      → stay_cell K s (get_or nodes.rests c 0)
      (get_or xs (block_at K (get_or nodes.prevs c 0) + (s + get_or nodes.rests c 0)) 0)
      ≡ stay_cell K s (get_or nodes.rests c 0)
      (cell_at K (children_in nodes (get_or nodes.prevs c 0)) (s + get_or nodes.rests c 0)).word
  unfolding stay_cell pick nth_prev
  stay_words s p = ap (λ w. record { word = w; run = 0 }) (go (leb (s + get_or nodes.rests c 0) K) refl)
    where
      go : (b : Bool) → leb (s + get_or nodes.rests c 0) K ≡ b
          → pick b (get_or xs (block_at K (get_or nodes.prevs c 0) + (s + get_or nodes.rests c 0)) 0) no_word
          ≡ pick b (cell_at K (children_in nodes (get_or nodes.prevs c 0)) (s + get_or nodes.rests c 0)).word no_word
      go true e = f.columns 0 (s + get_or nodes.rests c 0) (omega arith) (leb-true (s + get_or nodes.rests c 0) K e)
      go false e = refl

  pub stretch_start : (here first : ℕ) (ys : List ℕ) (sums : Sums) → here ≡ block_at K c
      → first ≡ block_at K (get_or nodes.prevs c 0)
      → Swept K start here
      (λ s. stay_cell K s (get_or nodes.rests c 0) (get_or xs (first + (s + get_or nodes.rests c 0)) 0)) xs ys
      → sums ≡ no_sums
      → Stretch K start c nodes xs (Joins K) ys sums c
  unfolding last_children_in nth_prev joins cell_at
  stretch_start here first ys sums e d swept none =
      let w = rw (e, d) at swept in
      rw none
      (record {
        fillable = fillable_swept f w;
        next_is = refl;
        short = omega arith;
        kept = sums_none K gain_slots;
        wide = length-replicate {A = ℕ} gain_slots 0;
        long = w.long;
        below = w.below;
        above = w.above;
        cells = λ s p q.
            let shape = children_cons nodes f.earlier c f.node_low in
            rw (w.cells s p q, stay_words s p, shape) refl;
      })

-- ---- The next child joins the run

module _ {K start c : ℕ} {nodes : Nodes} {xs ys : List ℕ} {sums : Sums} {next : ℕ}
    (t : Stretch K start c nodes xs (Joins K) ys sums next) where
  pub stretch_end : next ≡ 0 → Swept K start (block_at K c) (λ s. cell_at K (children_in nodes c) s) xs ys
  unfolding joins
  stretch_end e =
      record {
        long = t.long;
        cells = λ s p q. rw (← t.cells s p q, e, children_none nodes t.fillable.earlier) refl;
        below = t.below;
        above = t.above;
      }

  module _ (some : next ≡ 0 → ⊥) where
    low : 1 ≤ next
    low = omega arith

    pub joins_fits : (get_or nodes.gains next 0 ≤ max_limit) × (get_or sums.counts (get_or nodes.gains next 0) 0 < 65535)
        × (sums.len < 4294967295)
        × (sums.total + get_or nodes.rests next 0 < 4294967296) × (sums.gained + get_or nodes.gains next 0 < 4294967296)
    joins_fits =
        let f = t.fillable in
        sums_joins t.kept f.limit_high (omega (arith, t.short, f.node_high)) (child_in nodes next) (f.good next)

    joined : (r : Sums) → r ≡ joined_sums sums (get_or nodes.rests next 0) (get_or nodes.gains next 0)
        → Stretch K start c nodes xs (Tries K) ys r (get_or nodes.prevs next 0) × (1 ≤ r.len)
    unfolding last_children_in nth_prev joins
    joined r e =
        let f = t.fillable in
        let fits : get_or nodes.gains next 0 < length sums.counts = omega (arith, joins_fits.0, t.wide) in
        let more = sums_more t.kept (child_in nodes next) (f.good next) fits in
        rw e (
          record {
            fillable = f;
            next_is = rw (add-one sums.len) (ap (λ u. get_or nodes.prevs u 0) t.next_is);
            short = omega (arith, t.short, f.earlier next low);
            kept = rw (add-one sums.len, ← t.next_is) (rw (add-one sums.len) at more);
            wide = simp length-set t.wide;
            long = t.long;
            below = t.below;
            above = t.above;
            cells =
                λ s p q. rw (add-one sums.len, ← t.next_is)
                (ap (λ ks. joins K s (last_children_in nodes sums.len c) sums.len ks (cell_in ys K (block_at K c) s))
                (sym (children_cons nodes f.earlier next low))
                ∙ t.cells s p q);
          },
          omega arith,
        )

    pub taking_start : (r : Sums) → r ≡ joined_sums sums (get_or nodes.rests next 0) (get_or nodes.gains next 0)
        → Taking K start c nodes xs ys r (get_or nodes.prevs next 0) r.total 0 r.top (get_or r.counts r.top 0)
    taking_start r e =
        let tried = joined r e in
        record {
          tried = tried.0;
          some = tried.1;
          figures = run_figures tried.0.kept;
          gain_high = tried.0.kept.top_high;
          taken_high = omega arith;
        }

-- ---- The run is tried

module _ {K start c : ℕ} {nodes : Nodes} {xs ys : List ℕ} {sums : Sums} {next sum taken gain left : ℕ}
    (w : Taking K start c nodes xs ys sums next sum taken gain left) where
  abbrev run : List Child
  run = last_children_in nodes sums.len c

  abbrev before : List Child
  before = children_in nodes next

  few : sums.len ≤ max_nodes
  few = omega (arith, w.tried.short, w.tried.fillable.node_high)

  pub counts_small : (h : ℕ) → get_or sums.counts h 0 ≤ max_nodes
  counts_small h = omega (arith, sums_count w.tried.kept h, few)

  pub total_small : (sums.gained ≤ sums.total) × (sums.total ≤ max_nodes * max_limit)
  total_small =
      (sums_gained w.tried.kept, omega (arith, sums_total w.tried.kept w.tried.fillable.limit_high, few))

  -- the lightest total passes the limit
  pub stops_end : K < sums.total - sums.gained
      → Swept K start (block_at K c) (λ s. cell_at K (children_in nodes c) s) xs ys
  stops_end h =
      let t = w.tried in
      let stops = run_stops t.kept ∙ lt-ltb K (sums.total - sums.gained) h in
      record {
        long = t.long;
        cells =
            λ s p q. sym (stops_none t.kept stops sums.len (cell_at K before s).word (cell_in ys K (block_at K c) s))
            ∙ sym (longer_stops K s run sums.len before _ stops) ∙ t.cells s p q;
        below = t.below;
        above = t.above;
      }

  -- a run whose lightest total is within the limit has a gain left
  pub taking_some : sums.total - sums.gained ≤ K → K < sum → gain ≡ 0 → ⊥
  taking_some h over e =
      let figures = rw e at w.figures in
      let last = figures ∙ choosing_none left (counts_of sums.counts) K (record { sum = sum; count = taken }) in
      true≢false
      (sym (over_stops w.tried.kept sum taken last over)
      ∙ run_stops w.tried.kept ∙ le-ltb K (sums.total - sums.gained) h)

  module _ (within : sums.total - sums.gained ≤ K) (over : K < sum) where
    pub taking_down : left ≡ 0
        → Taking K start c nodes xs ys sums next sum taken (gain - 1) (get_or sums.counts (gain - 1) 0)
    taking_down e =
        let n = taking_some within over in
        let figures = rw e at w.figures in
        record {
          tried = w.tried;
          some = w.some;
          figures = figures ∙ choosing_down gain (counts_of sums.counts) K (record { sum = sum; count = taken })
              (omega arith);
          gain_high = omega (arith, w.gain_high);
          taken_high = w.taken_high;
        }

    pub taking_more : (left ≡ 0 → ⊥) → (sum' : ℕ) → sum' ≡ sum - gain
        → Taking K start c nodes xs ys sums next sum' (taken + 1) gain (left - 1)
    taking_more m sum' e =
        let n = taking_some within over in
        rw e
        record {
          tried = w.tried;
          some = w.some;
          figures = w.figures ∙ choosing_take gain left (counts_of sums.counts) K sum taken (omega arith)
              (omega arith) over;
          gain_high = w.gain_high;
          taken_high = omega (arith, w.taken_high, w.gain_high);
        }

  module _ (high : sum ≤ K) where
    last_figures : totals_of (run_of K run) ≡ record { sum = sum; count = taken }
    last_figures = w.figures ∙ choosing_room gain left (counts_of sums.counts) K
        (record { sum = sum; count = taken }) high

    pub taken_small : taken ≤ max_nodes
    taken_small = omega (arith, run_taken_le w.tried.kept sum taken last_figures, few)

    apart : block_at K next + 2 * (K + 1) ≤ block_at K c
    apart = block_apart K next c (omega (arith, w.tried.short, w.some))

    columns_at : (n : ℕ) → 1 ≤ n
        → ColumnWords K start ys (block_at K (nth_prev nodes.prevs n c)) (children_in nodes (nth_prev nodes.prevs n c))
    columns_at zero p = absurd (omega arith)
    columns_at (suc n) p = w.tried.fillable.columns n

    word_is : (s : ℕ) → start ≤ s → s ≤ K → get_or ys (block_at K next + s) 0 ≡ (cell_at K before s).word
    word_is = rw (← w.tried.next_is) at (columns_at sums.len w.some)

    module _ (here first : ℕ) (e : here ≡ block_at K c) (d : first ≡ block_at K next) where
      pub relax_ready : start ≤ K → (K ≤ max_limit) × (start ≤ max_limit) × (first + 2 * (K + 1) ≤ here)
          × (here + 2 * (K + 1) ≤ length ys)
          × ((s : ℕ) → start ≤ s → s ≤ K → get_or ys (first + s) 0 + (1 + taken) * page_word < 4294967296)
      relax_ready h =
          let f = w.tried.fillable in (
            f.limit_high,
            omega (arith, f.limit_high),
            rw (e, d) apart,
            rw e f.room,
            λ s p q. rw d (omega (arith, word_is s p q, taken_small, small s q)),
          )
        where
          small : (s : ℕ) → s ≤ K → (cell_at K before s).word < word_end
          small s q =
              let f = w.tried.fillable in
              cell_word_small K f.limit_high before s q (children_good K nodes f.good next)
              (omega (arith, children_length nodes f.earlier next, w.tried.short, f.node_high))

      pub stretch_again : (zs : List ℕ)
          → Swept K start here (λ s. lower (get_or ys (first + s) 0 + (1 + taken) * page_word) sums.len
          (cell_in ys K here s)) ys zs
          → Stretch K start c nodes xs (Joins K) zs sums next
      stretch_again zs swept =
          let t = w.tried in
          let z = rw (e, d) at swept in
          let goes = fits_goes t.kept sum taken last_figures high in
          record {
            fillable = fillable_swept t.fillable z;
            next_is = t.next_is;
            short = t.short;
            kept = t.kept;
            wide = t.wide;
            long = z.long ∙ t.long;
            below = λ i p. z.below i p ∙ t.below i p;
            above = λ i p. z.above i p ∙ t.above i p;
            cells =
                λ s p q. sym (longer_goes K s run sums.len before _ goes)
                ∙ ap (λ cell. longer_runs K s run sums.len before cell)
                (z.cells s p q
                ∙ ap (λ x. lower (x + (1 + taken) * page_word) sums.len (cell_in ys K (block_at K c) s))
                (word_is s p q)
                ∙ sym (run_fits t.kept sum taken last_figures high sums.len
                (cell_at K before s).word (cell_in ys K (block_at K c) s)))
                ∙ t.cells s p q;
          }
