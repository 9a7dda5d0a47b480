-- The rightmost planner by node number: the remainder of each node, what is kept of a node's children, and what its
-- functions ask and promise.
-- Defines run_mark; rest_at, rests_to; rest_in, CutReady, CutDone; Tail, Settled. Assumes nothing.
use Rattle.std.specs.Prelude.{ℕ, ◌+◌, ◌*◌, ◌≤◌, ◌<◌, ◌≡◌, Bool, List, length, get_or}
use Rattle.model.specs.Basics.{pick}
use Rattle.model.specs.Table.{max_nodes, max_limit, slots, node_count, limit_of, weight_at, first_at, next_at}
use Rattle.model.specs.Plan.{prev_at, parent_at, stays, begins, continues, mark_at}
use Rattle.model.specs.Steps.{siblings_by, total, cut_runs, right_rest, right_rests}
use Rattle.theory.specs.TableChain.{chain_at}
use Rattle.theory.specs.SiblingsBack.{ChildOrNone, SiblingsLinked}
use Rattle.theory.specs.LaidByNumber.{siblings_back}
use Rattle.quick.specs.declared.rightmost.Siblings.{Siblings}

-- the mark of a child that is cut or not, whose run goes on to the left or not
unfoldable pub run_mark : Bool → Bool → ℕ
run_mark cut goes = pick cut (pick goes continues begins) stays

-- ---- Remainders by number

-- of node v's children, the last first
abbrev pub kid_rests : List ℕ → ℕ → List ℕ
kid_rests t v = right_rests (limit_of t) (chain_at t (first_at t v))

-- of node v
unfoldable pub rest_at : List ℕ → ℕ → ℕ
rest_at t v = right_rest (limit_of t) (weight_at t v) (kid_rests t v)

-- of node u and of the siblings before it
abbrev pub rests_to : List ℕ → ℕ → List ℕ
rests_to t u = siblings_back t (rest_at t) u

-- ---- The cuts of a node's children

-- the remainder that an array has for a node
abbrev pub rest_in : List ℕ → ℕ → ℕ
rest_in rests u = get_or rests u 0

-- as an array has them, of node u and of the siblings before it
abbrev pub rests_in : List ℕ → List ℕ → ℕ → List ℕ
rests_in t rests u = siblings_back t (rest_in rests) u

-- the sum of so many remainders at most, so that it fits a word
abbrev pub most_sum : ℕ
most_sum = max_limit * max_nodes

pub record CutReady (t prevs rests marks : List ℕ) (v last sum : ℕ) : Type 0 where
  pub linked : SiblingsLinked t prevs
  pub low : 1 ≤ v
  pub high : v ≤ node_count t
  pub long : length marks ≡ node_count t
  pub light : (u : ℕ) → rest_in rests u ≤ limit_of t
  pub last_child : ChildOrNone t v last
  pub sum_is : sum ≡ total (rests_in t rests last)
  pub small : sum ≤ most_sum

-- the children up to `last` have the marks of their runs, no other node's mark is changed, and r is node v's remainder
pub record CutDone (t rests : List ℕ) (v last : ℕ) (marks marks' : List ℕ) (r : ℕ) : Type 0 where
  pub cut : siblings_back t (mark_at marks') last ≡ cut_runs (limit_of t) (weight_at t v) (rests_in t rests last)
  pub rest : r ≡ right_rest (limit_of t) (weight_at t v) (rests_in t rests last)
  pub others : (u : ℕ) → 1 ≤ u → (parent_at t u ≡ v → ⊥) → mark_at marks' u ≡ mark_at marks u

-- ---- Nodes that are settled

-- node u and the siblings after it: the last of them, and the sum of their remainders
pub record Tail (t : List ℕ) (u last sum : ℕ) : Type 0 where
  pub low : 1 ≤ last
  pub high : last ≤ node_count t
  pub parent : parent_at t last ≡ parent_at t u
  pub link : next_at t last ≡ 0
  pub list : siblings_by (right_rest (limit_of t)) (chain_at t u) (rests_to t (prev_at t u)) ≡ rests_to t last
  pub sums : total (rests_to t last) ≡ total (rests_to t (prev_at t u)) + sum

-- the last child of node v, from the last siblings of all
abbrev pub last_kid : List ℕ → List ℕ → ℕ → ℕ
last_kid t lasts v = get_or lasts (first_at t v) 0

-- the nodes after v have their remainders and tails, and their children's marks
pub record Settled (t : List ℕ) (n : Siblings) (marks : List ℕ) (v : ℕ) : Type 0 where
  pub linked : SiblingsLinked t n.before.now
  pub wide : (length n.rests ≡ slots) × (length n.sums ≡ slots) × (length n.lasts ≡ slots)
  pub long : length marks ≡ node_count t
  pub light : (u : ℕ) → rest_in n.rests u ≤ limit_of t
  pub no_sum : get_or n.sums 0 0 ≡ 0
  pub no_last : get_or n.lasts 0 0 ≡ 0
  pub rests_are : (u : ℕ) → v < u → u ≤ node_count t → rest_in n.rests u ≡ rest_at t u
  pub tails : (u : ℕ) → v < u → u ≤ node_count t → Tail t u (get_or n.lasts u 0) (get_or n.sums u 0)
  pub cuts : (u : ℕ) → v < u → u ≤ node_count t
      → siblings_back t (mark_at marks) (last_kid t n.lasts u) ≡ cut_runs (limit_of t) (weight_at t u) (kid_rests t u)
