-- What a layout holds, what the pass over a plan finds, whatever the judge says of it, and what is known of the layout of
-- a feasible plan; and the test of a mark by numbers.
-- Defines good_case, Cleared, IsLayout, LightPages, FeasibleLayout. Proves feasible_layout. Assumes
-- nothing.
use Rattle.std.specs.Prelude.{ℕ, ◌≤◌, ◌<◌, ◌≡◌, Bool, not, ◌&&◌, ◌||◌, List, get_or, replicate, eqb}
use Rattle.std.proofs.Common.{arith}
use Rattle.model.specs.Basics.{pick}
use Rattle.model.specs.Table.{max_nodes, max_limit, slots, node_count, limit_of}
use Rattle.model.specs.Plan.{parent_at, page_of, page_weight, page_count, bad_mark}
use Rattle.model.specs.Runs.{page_run}
use Rattle.std.specs.declared.option.Option.TheVariants.{None}
use Rattle.layout.specs.declared.Layout.{Layout}
use Rattle.theory.specs.Ranges.{Upto}
use Rattle.theory.specs.Slots.{Row}
use Rattle.theory.specs.JudgeAnswers.{page_count_le}
use Rattle.theory.specs.PlanFeasible.{Judged, within_limit_lem}

-- what good_mark says of node v, by v's mark, the sibling before it, and that one's mark
unfoldable pub good_case : ℕ → ℕ → ℕ → ℕ → Bool
good_case v mark before prior =
    pick (eqb v 1) (eqb mark 1)
    (pick (eqb mark 2) (not (eqb before 0) && (eqb prior 1 || eqb prior 2)) (eqb mark 0 || eqb mark 1))

-- the layout as it is made
abbrev pub Cleared : Layout → Type 0
Cleared l =
    l
    ≡ record {
      parents = replicate slots 0;
      page = replicate slots 0;
      firsts = replicate slots 0;
      lasts = replicate slots 0;
      weights = replicate slots 0;
      pages = 0;
    }

-- what the plan m makes of the tree t
pub record IsLayout (t m : List ℕ) (r : Layout) : Type 0 where
  pub parents_are : Row (node_count t) (parent_at t) r.parents
  pub page_is : Row (node_count t) (page_of t m) r.page
  pub firsts_are : bad_mark t m ≡ None → Row (page_count t m) (λ p. (page_run t m p).first) r.firsts
  pub lasts_are : bad_mark t m ≡ None → Row (page_count t m) (λ p. (page_run t m p).last) r.lasts
  pub weights_are : (p : ℕ) → p < slots → get_or r.weights p 0 ≡ page_weight t m p
  pub pages_are : r.pages ≡ page_count t m

-- as many pages as there are slots for, none over the limit
pub record LightPages (weights : List ℕ) (pages limit : ℕ) : Type 0 where
  pub few : pages < slots
  pub low : 1 ≤ limit
  pub high : limit ≤ max_limit
  pub within : Upto pages (λ p. get_or weights p 0 ≤ limit)

-- the layout of a feasible plan, and what is known of it
pub record FeasibleLayout (t m : List ℕ) (l : Layout) : Type 0 where
  pub judged : Judged t m
  pub parents_are : Row (node_count t) (parent_at t) l.parents
  pub page_is : Row (node_count t) (page_of t m) l.page
  pub firsts_are : Row (page_count t m) (λ p. (page_run t m p).first) l.firsts
  pub lasts_are : Row (page_count t m) (λ p. (page_run t m p).last) l.lasts
  pub weights_are : Row (page_count t m) (page_weight t m) l.weights
  pub root_is : get_or l.weights 1 0 ≡ page_weight t m 1
  pub pages_are : l.pages ≡ page_count t m
  pub pages_most : page_count t m ≤ max_nodes
  pub light : LightPages l.weights l.pages (limit_of t)

pub feasible_layout : {t m : List ℕ} {l : Layout} → Judged t m → IsLayout t m l → FeasibleLayout t m l
feasible_layout {t} {m} {l} j is =
    record {
      judged = j;
      parents_are = is.parents_are;
      page_is = is.page_is;
      firsts_are = is.firsts_are j.marked;
      lasts_are = is.lasts_are j.marked;
      weights_are = weights;
      root_is = is.weights_are 1 (omega arith);
      pages_are = is.pages_are;
      pages_most = most;
      light =
          record {
            few = omega (arith, is.pages_are, most);
            low = j.tree.sound.limit_low;
            high = j.tree.sound.limit_high;
            within =
                λ p low high.
                let upto : p ≤ page_count t m = omega (arith, is.pages_are) in
                omega (arith, weights p low upto, within_limit_lem j p low upto);
          };
    }
  where
    most : page_count t m ≤ max_nodes
    most = omega (arith, page_count_le t m, j.tree.sound.count_high)

    weights : Row (page_count t m) (page_weight t m) l.weights
    weights p low high = is.weights_are p (omega (arith, most))
