-- What laying marks relies on, and what it leaves: for a run, for a node's children.
-- Defines run_choices_back, SecondsGain, SumReady, SumDone, RunReady, RunDone, start_of, NodeReady, NodeDone.
-- Assumes nothing.
use Rattle.std.specs.Prelude.{ℕ, ◌≤◌, ◌≡◌, Bool, List, [], reverse, length, get_or, true, false}
use Rattle.model.specs.Basics.{pick}
use Rattle.model.specs.Table.{max_nodes, max_limit, slots, node_count, limit_of, weight_at}
use Rattle.model.specs.Plan.{begins, parent_at}
use Rattle.model.specs.Steps.{Child, Choice, run_of, run_choices, entry_at, second_start}
use Rattle.theory.specs.SiblingsBack.{Earlier, ChildOrNone}
use Rattle.theory.specs.LaidByNumber.{siblings_back}
use Rattle.columns.specs.Cells.{last_children}
use Rattle.columns.specs.CellsArrays.{children_in, EachGood}
use Rattle.columns.specs.CellsRun.{nth_prev, RunSums}
use Rattle.columns.specs.CellsNode.{ColumnsReady, ColumnsBack}
use Rattle.best.specs.LayChosen.{chosen_in, LaidRun}
use Rattle.columns.specs.declared.run.Sums.{Sums}
use Rattle.columns.specs.declared.nodes.Nodes.{Nodes}

-- ---- A run

-- the choices of a run of the last n children, the last first
abbrev pub run_choices_back : ℕ → ℕ → List Child → List Choice
run_choices_back K n ks = reverse (run_choices begins (run_of K (last_children n [] ks)))

-- a node that follows its second plan has one
abbrev pub SecondsGain : List ℕ → List Bool → Type 0
SecondsGain gains seconds = (u : ℕ) → get_or seconds u false ≡ true → 1 ≤ get_or gains u 0

-- node c has n - 1 siblings before it, at least
pub record SumReady (c n : ℕ) (nodes : Nodes) : Type 0 where
  pub high : c ≤ max_nodes
  pub earlier : Earlier nodes.prevs
  pub none : get_or nodes.prevs 0 0 ≡ 0
  pub good : EachGood max_limit nodes
  pub within : n ≤ length (children_in nodes c)

-- what is kept of the last n children up to node c
abbrev pub SumDone : ℕ → ℕ → Nodes → Sums → Type 0
SumDone c n nodes sums = (K : ℕ) → EachGood K nodes → RunSums K (last_children n [] (children_in nodes c)) sums

pub record RunReady (K c n : ℕ) (nodes : Nodes) (marks : List ℕ) (seconds : List Bool) : Type 0 where
  pub limit_high : K ≤ max_limit
  pub high : c ≤ length marks
  pub short : length marks ≤ max_nodes
  pub wide : length seconds ≡ slots
  pub earlier : Earlier nodes.prevs
  pub none : get_or nodes.prevs 0 0 ≡ 0
  pub good : EachGood K nodes
  pub within : n ≤ length (children_in nodes c)
  pub seconds_gain : SecondsGain nodes.gains seconds

-- the run is laid, and r is the sibling before it
pub record RunDone (K c n : ℕ) (nodes : Nodes) (marks : List ℕ) (seconds : List Bool) (marks' : List ℕ)
    (seconds' : List Bool) (r : ℕ) : Type 0 where
  pub laid : LaidRun nodes.prevs n c (run_choices_back K n (children_in nodes c)) marks seconds marks' seconds'
  pub wide : length seconds' ≡ slots
  pub seconds_gain : SecondsGain nodes.gains seconds'
  pub next : r ≡ nth_prev nodes.prevs n c

-- ---- The children of a node

-- where a plan starts: at the node's weight w, or at the second start, where the best plan's rest is W
abbrev pub start_of : ℕ → ℕ → ℕ → Bool → ℕ
start_of K w W second = pick second (second_start K w W) w

-- the columns of node v's children are there
pub record NodeReady (t : List ℕ) (v : ℕ) (nodes : Nodes) (xs marks : List ℕ) (seconds : List Bool) : Type 0 where
  pub low : 1 ≤ v
  pub high : v ≤ node_count t
  pub ready : ColumnsReady t nodes xs
  pub last_child : ChildOrNone t v (get_or nodes.lasts v 0)
  pub columns : ColumnsBack (limit_of t) (weight_at t v) nodes xs (get_or nodes.lasts v 0)
  pub second : 1 ≤ get_or nodes.gains v 0 → second_start (limit_of t) (weight_at t v) (get_or nodes.rests v 0) ≤ limit_of t
  pub long : length marks ≡ node_count t
  pub wide : length seconds ≡ slots
  pub seconds_gain : SecondsGain nodes.gains seconds

-- what becomes of v's children is what its plan chose, and nothing else is changed
pub record NodeDone (t : List ℕ) (v : ℕ) (nodes : Nodes) (marks : List ℕ) (seconds : List Bool) (marks' : List ℕ)
    (seconds' : List Bool) : Type 0 where
  pub long : length marks' ≡ length marks
  pub wide : length seconds' ≡ slots
  pub seconds_gain : SecondsGain nodes.gains seconds'
  pub chosen : siblings_back t (chosen_in marks' seconds') (get_or nodes.lasts v 0)
      ≡ (entry_at (limit_of t) (children_in nodes (get_or nodes.lasts v 0))
      (start_of (limit_of t) (weight_at t v) (get_or nodes.rests v 0) (get_or seconds v false))).choices
  pub others : (u : ℕ) → 1 ≤ u → (parent_at t u ≡ v → ⊥) → chosen_in marks' seconds' u ≡ chosen_in marks seconds u
