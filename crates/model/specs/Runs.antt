-- Document 01, 'Plans and pages': the sequences of sibling runs of demand 3, told from the tree alone.
use Rattle.std.specs.Prelude.{ℕ, zero, suc, ◌-◌, ◌≡◌, Bool, not, ◌&&◌, ◌||◌, List, [], ◌∷◌, length, get_or, eqb, leb}
use Rattle.model.specs.Basics.{pick, at_place, sum_to, count_to, list_to, every}
use Rattle.model.specs.Table.{node_count, limit_of, weight_at, next_at}
use Rattle.model.specs.Plan.{parent_at, has_mark, begins, run_last}
use Rattle.std.specs.declared.option.Option.{Option}
use Rattle.std.specs.declared.option.Option.TheVariants.{Some, None}

-- a run by its first node and its last sibling
pub record Run : Type 0 where
  pub first : ℕ
  pub last : ℕ

-- node v is u or comes after it in the chain; f bounds the links followed
unfoldable pub comes_from : ℕ → List ℕ → ℕ → ℕ → Bool
comes_from zero t u v = eqb u v
comes_from (suc f) t u v = eqb u v || (not (eqb (next_at t u) 0) && comes_from f t (next_at t u) v)

unfoldable pub comes_after : List ℕ → ℕ → ℕ → Bool
comes_after t u v = comes_from (node_count t) t u v

-- a first node, and a last sibling that is the same node or comes after it in the chain
unfoldable pub is_run : List ℕ → Run → Bool
is_run t r = leb 1 r.first && leb r.first (node_count t) && comes_after t r.first r.last

-- the first, the last, and all siblings between
unfoldable pub is_member : List ℕ → ℕ → Run → Bool
is_member t v r = comes_after t r.first v && comes_after t v r.last

-- node 1 by itself
abbrev pub root_run : Run
root_run = record { first = 1; last = 1 }

abbrev pub is_root_run : Run → Bool
is_root_run r = eqb r.first 1 && eqb r.last 1

-- how many elements of a list pass the test
unfoldable pub count_of {ℓ} : {X : Type ℓ} → (X → Bool) → List X → ℕ
count_of p [] = 0
count_of p (x ∷ xs) = pick (p x) (suc (count_of p xs)) (count_of p xs)

-- the same first node and the same last sibling
unfoldable pub same_run : Run → Run → Bool
same_run r r' = eqb r.first r'.first && eqb r.last r'.last

-- two sequences are the same, order apart: each run is as often in the one as in the other
abbrev pub OrderApart : List Run → List Run → Type 0
OrderApart rs qs = (r : Run) → count_of (same_run r) rs ≡ count_of (same_run r) qs

-- node v is in no two entries of the sequence
abbrev pub in_one_at_most : List ℕ → List Run → ℕ → Bool
in_one_at_most t rs v = leb (count_of (is_member t v) rs) 1

-- The sequence holds the tree: node 1 by itself is one of its runs, and no node is in two of them.
unfoldable pub holds : List ℕ → List Run → Bool
holds t rs =
    every (is_run t) rs && leb 1 (count_of is_root_run rs) && eqb (count_to (node_count t) (in_one_at_most t rs)) (node_count t)

-- the first node of the run that has node v
unfoldable pub run_with : List ℕ → List Run → ℕ → Option ℕ
run_with t [] v = None
run_with t (r ∷ rs) v = pick (is_member t v r) (Some r.first) (run_with t rs v)

-- A page is named by the first node of its run. A node in a run is on that run's page, any other on its parent's
-- page; f bounds the steps up.
unfoldable pub home_from : ℕ → List ℕ → List Run → ℕ → ℕ
home_from zero t rs v = 0
home_from (suc f) t rs v = at_place (run_with t rs v) (λ u. u) (home_from f t rs (parent_at t v))

unfoldable pub home_of : List ℕ → List Run → ℕ → ℕ
home_of t rs v = home_from v t rs v

-- the weight of a run's page: the sum of its nodes' weights
unfoldable pub run_weight : List ℕ → List Run → Run → ℕ
run_weight t rs r = sum_to (node_count t) (λ v. pick (eqb (home_of t rs v) r.first) (weight_at t v) 0)

-- no page weighs over K
unfoldable pub within_limit : List ℕ → List Run → Bool
within_limit t rs = every (λ r. leb (run_weight t rs r) (limit_of t)) rs

-- the page count is the number of runs, and the root page is the one with node 1
abbrev pub run_count : List Run → ℕ
run_count rs = length rs

abbrev pub root_weight : List ℕ → List Run → ℕ
root_weight t rs = run_weight t rs root_run

-- the runs of a plan, by their first nodes
unfoldable pub runs_of : List ℕ → List ℕ → List Run
runs_of t m = list_to (node_count t) (λ v. pick (has_mark m begins v) (record { first = v; last = run_last t m v } ∷ []) [])

-- the run of page p: pages and runs have one order, that of their first nodes
unfoldable pub page_run : List ℕ → List ℕ → ℕ → Run
page_run t m p = get_or (runs_of t m) (p - 1) root_run
