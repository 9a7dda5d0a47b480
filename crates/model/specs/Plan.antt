-- Document 01, 'Plans and pages': marks, runs, pages, their weights, and the verdict.
use Rattle.std.specs.Prelude.{ℕ, zero, suc, ◌-◌, Bool, not, ◌&&◌, ◌||◌, List, get_or, eqb, ltb}
use Rattle.model.specs.Basics.{pick, at_place, sum_to, count_to, first_to, last_to}
use Rattle.model.specs.Table.{node_count, limit_of, weight_at, first_at, next_at}
use Rattle.std.specs.declared.option.Option.{Option}
use Rattle.model.specs.declared.Cause.TheVariants.{BadMark, HeavyPage}
use Rattle.model.specs.declared.Verdict.{Verdict}
use Rattle.model.specs.declared.Verdict.TheVariants.{Feasible, Failed}

-- the sibling just before node v, or 0
unfoldable pub prev_at : List ℕ → ℕ → ℕ
prev_at t v = last_to (v - 1) (λ u. eqb (next_at t u) v)

-- the node whose first child is v, or 0
unfoldable pub owner_at : List ℕ → ℕ → ℕ
owner_at t v = last_to (v - 1) (λ u. eqb (first_at t u) v)

-- the parent of node v, found from the first of its siblings, or 0; f bounds the siblings before it
unfoldable pub parent_from : ℕ → List ℕ → ℕ → ℕ
parent_from zero t v = 0
parent_from (suc f) t v = pick (eqb (prev_at t v) 0) (owner_at t v) (parent_from f t (prev_at t v))

unfoldable pub parent_at : List ℕ → ℕ → ℕ
parent_at t v = parent_from v t v

-- a plan is one mark byte a node
abbrev pub stays : ℕ
stays = 0

abbrev pub begins : ℕ
begins = 1

abbrev pub continues : ℕ
continues = 2

unfoldable pub mark_at : List ℕ → ℕ → ℕ
mark_at m v = get_or m (v - 1) 0

abbrev pub has_mark : List ℕ → ℕ → ℕ → Bool
has_mark m k v = eqb (mark_at m v) k

-- the marks of the nodes of a run
unfoldable pub in_run : List ℕ → ℕ → Bool
in_run m v = has_mark m begins v || has_mark m continues v

-- Node 1 has 1. A 2 needs a sibling just before it with 1 or 2.
unfoldable pub good_mark : List ℕ → List ℕ → ℕ → Bool
good_mark t m v =
    pick (eqb v 1) (has_mark m begins v)
    (pick (has_mark m continues v) (not (eqb (prev_at t v) 0) && in_run m (prev_at t v))
    (has_mark m stays v || has_mark m begins v))

-- Pages are numbered from 1 by their first node, which begins a run. Any other node is on the page of the sibling
-- just before it where it continues a run, and else of its parent. f bounds the steps to the first node.
unfoldable pub page_from : ℕ → List ℕ → List ℕ → ℕ → ℕ
page_from zero t m v = 0
page_from (suc f) t m v =
    pick (has_mark m begins v) (count_to v (has_mark m begins))
    (page_from f t m (pick (has_mark m continues v) (prev_at t v) (parent_at t v)))

unfoldable pub page_of : List ℕ → List ℕ → ℕ → ℕ
page_of t m v = page_from v t m v

-- each run is one page
unfoldable pub page_count : List ℕ → List ℕ → ℕ
page_count t m = count_to (node_count t) (has_mark m begins)

-- a page's weight is the sum of its nodes' weights
unfoldable pub page_weight : List ℕ → List ℕ → ℕ → ℕ
page_weight t m p = sum_to (node_count t) (λ v. pick (eqb (page_of t m v) p) (weight_at t v) 0)

-- how many nodes a page has
unfoldable pub page_nodes : List ℕ → List ℕ → ℕ → ℕ
page_nodes t m p = count_to (node_count t) (λ v. eqb (page_of t m v) p)

-- the first node whose mark is not allowed
unfoldable pub bad_mark : List ℕ → List ℕ → Option ℕ
bad_mark t m = first_to (node_count t) (λ v. not (good_mark t m v))

-- the first page that weighs over K
unfoldable pub heavy_page : List ℕ → List ℕ → Option ℕ
heavy_page t m = first_to (page_count t m) (λ p. ltb (limit_of t) (page_weight t m p))

-- the judge's verdict: page count and root weight, or else why the plan failed
unfoldable pub verdict_of : List ℕ → List ℕ → Verdict
verdict_of t m =
    at_place (bad_mark t m) (λ v. Failed (BadMark v))
    (at_place (heavy_page t m) (λ p. Failed (HeavyPage p)) (Feasible (page_count t m) (page_weight t m 1)))

-- the last sibling of the run that node v is in; f bounds the siblings after it
unfoldable pub run_last_from : ℕ → List ℕ → List ℕ → ℕ → ℕ
run_last_from zero t m v = v
run_last_from (suc f) t m v =
    pick (not (eqb (next_at t v) 0) && has_mark m continues (next_at t v)) (run_last_from f t m (next_at t v)) v

unfoldable pub run_last : List ℕ → List ℕ → ℕ → ℕ
run_last t m v = run_last_from (node_count t) t m v
