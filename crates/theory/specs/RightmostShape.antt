-- The plan of the rightmost planner is feasible, by shape: at a node every remainder is at most K, so that a run of one
-- child is always allowed, and what stays has room with the node.
-- Proves right_fits (a node's remainder is within K), kids_within (so are its children's) and rightmost_feasible (the
-- plan of a tree). Assumes nothing.
use Rattle.std.specs.Prelude.{ℕ, ◌+◌, ◌≤◌, ◌≡◌, Bool}
use Rattle.std.proofs.Math.Path.{refl}
use Rattle.std.proofs.Common.{sym, ◌∙◌, ap, arith}
use Rattle.std.proofs.Math.Bool.{true, false}
use mathlib.Core.List.{List, [], ◌∷◌, reverse, reverse_aux, reverse-reverse}
use Rattle.std.proofs.Math.Dec.{leb}
use borrow.Author.Tests.{leb-true}
use Rattle.model.specs.Basics.{pick}
use Rattle.model.specs.Table.{Chain, end, node}
use Rattle.model.specs.Plan.{stays, begins, continues}
use Rattle.model.specs.Steps.{siblings_by, lay_down, total, while_over, cut_runs, run_left, stayed, right_rest, right_rests}
use Rattle.model.specs.Steps.{lay_rightmost, rightmost_marks}
use Rattle.std.specs.declared.option.Option.{Option}
use Rattle.std.specs.declared.option.Option.TheVariants.{Some, None}
use Rattle.theory.specs.PlanShape.{AllWithin, EachWithin}
use Rattle.theory.specs.PlanLaid.{MarksLaid, laid_end, laid_stays, laid_begins, laid_continues, FeasibleShape}
use Rattle.theory.specs.PlanLaid.{feasible_tree}

-- ---- Marks of siblings

-- Siblings with the remainders rs have the marks ms, the last first in both: x is the sum of those that stay, no run
-- weighs over K, and the last sibling is in a run of the weight told, or in none.
data RunsWithin (K : ℕ) : List ℕ → List ℕ → ℕ → Option ℕ → Type 0 where
  empty : RunsWithin K [] [] 0 None
  stay : {rs ms : List ℕ} {r x z : ℕ} {o : Option ℕ} → z ≡ r + x → RunsWithin K rs ms x o
      → RunsWithin K (r ∷ rs) (stays ∷ ms) z None
  begin : {rs ms : List ℕ} {r x : ℕ} {o : Option ℕ} → r ≤ K → RunsWithin K rs ms x o
      → RunsWithin K (r ∷ rs) (begins ∷ ms) x (Some r)
  go : {rs ms : List ℕ} {r x y z : ℕ} → z ≡ y + r → z ≤ K → RunsWithin K rs ms x (Some y)
      → RunsWithin K (r ∷ rs) (continues ∷ ms) x (Some z)

runs_stayed : {K x : ℕ} {rs ms : List ℕ} {o : Option ℕ} → RunsWithin K rs ms x o → stayed rs ms ≡ x
unfolding stayed pick
runs_stayed empty = refl
runs_stayed (stay e v) = omega (arith, runs_stayed v)
runs_stayed (begin h v) = omega (arith, runs_stayed v)
runs_stayed (go e h v) = omega (arith, runs_stayed v)

runs_total : {K x : ℕ} {rs ms : List ℕ} {o : Option ℕ} → RunsWithin K rs ms x o → x ≤ total rs
unfolding total
runs_total empty = omega arith
runs_total (stay e v) = omega (arith, runs_total v)
runs_total (begin h v) = omega (arith, runs_total v)
runs_total (go e h v) = omega (arith, runs_total v)

-- ---- The cuts of a node's children

-- the marks are runs within K, and a node of weight w has room for what stays
record CutWithin (K w : ℕ) (rs ms : List ℕ) : Type 0 where
  sum : ℕ
  run : Option ℕ
  runs : RunsWithin K rs ms sum run
  fits : w + sum ≤ K

-- The marks from a run's member on, to the left: it is the leftmost, or the run goes on. `sum` is what this member and
-- those to its right weigh, and rs are the siblings to its left.
data RunFrom (K w sum : ℕ) (rs : List ℕ) : List ℕ → Type 0 where
  leftmost : {ms : List ℕ} → CutWithin K w rs ms → RunFrom K w sum rs (begins ∷ ms)
  further : {ms : List ℕ} {x y : ℕ} → RunsWithin K rs ms x (Some y) → y + sum ≤ K → w + x ≤ K
      → RunFrom K w sum rs (continues ∷ ms)

module _ {K w : ℕ} {rs : List ℕ} where
  -- a run starts
  run_starts : {ms : List ℕ} (r : ℕ) → r ≤ K → RunFrom K w r rs ms → CutWithin K w (r ∷ rs) ms
  run_starts r h (leftmost c) = record { sum = _; run = _; runs = begin h c.runs; fits = c.fits }
  run_starts r h (further v f g) = record { sum = _; run = _; runs = go refl f v; fits = g }

  -- it takes its left neighbour
  run_takes : {ms : List ℕ} (sum r : ℕ) → sum + r ≤ K → RunFrom K w (sum + r) rs ms
      → RunFrom K w sum (r ∷ rs) (continues ∷ ms)
  run_takes sum r h (leftmost c) = further (begin {r = r} (omega arith) c.runs) (omega arith) c.fits
  run_takes sum r h (further {y = y} v f g) = further (go {z = y + r} refl (omega arith) v) (omega arith) g

record Cutting (K w : ℕ) (rs : List ℕ) : Type 0 where
  cut : CutWithin K w rs (cut_runs K w rs)
  left : (sum : ℕ) → sum ≤ K → RunFrom K w sum rs (run_left K w sum rs)

-- one child more, to the right of rs
module _ {K w : ℕ} (r : ℕ) {rs : List ℕ} (light : r ≤ K) (before : Cutting K w rs) where
  cut_more : CutWithin K w (r ∷ rs) (while_over K w (r ∷ rs) (run_left K w r rs) (stays ∷ cut_runs K w rs))
  unfolding while_over pick total
  cut_more = by (leb (w + total (r ∷ rs)) K) refl
    where
      by : (b : Bool) → leb (w + total (r ∷ rs)) K ≡ b
          → CutWithin K w (r ∷ rs) (pick b (stays ∷ cut_runs K w rs) (run_left K w r rs))
      by true e =
          let f : w + total (r ∷ rs) ≤ K = leb-true (w + total (r ∷ rs)) K e in
          let c = before.cut in
          record { sum = _; run = _; runs = stay refl c.runs; fits = omega (arith, runs_total c.runs) }
      by false e = run_starts r light (before.left r light)

  left_more : (sum : ℕ) → RunFrom K w sum (r ∷ rs) (run_left K w sum (r ∷ rs))
  unfolding run_left pick
  left_more sum = by (leb (sum + r) K) refl
    where
      by : (b : Bool) → leb (sum + r) K ≡ b
          → RunFrom K w sum (r ∷ rs)
          (pick b (continues ∷ run_left K w (sum + r) rs)
          (begins ∷ while_over K w (r ∷ rs) (run_left K w r rs) (stays ∷ cut_runs K w rs)))
      by true e =
          let f : sum + r ≤ K = leb-true (sum + r) K e in
          run_takes sum r f (before.left (sum + r) f)
      by false e = leftmost cut_more

cutting : (K w : ℕ) (rs : List ℕ) → w ≤ K → AllWithin K rs → Cutting K w rs
unfolding cut_runs run_left AllWithin
cutting K w [] h a =
    let none : CutWithin K w [] [] = record { sum = 0; run = None; runs = empty; fits = omega arith } in
    record { cut = none; left = λ sum s. leftmost none }
cutting K w (r ∷ rs) h a =
    let before = cutting K w rs h a.1 in
    record { cut = cut_more r a.0 before; left = λ sum s. left_more r a.0 before sum }

cut_within : (K w : ℕ) (rs : List ℕ) → w ≤ K → AllWithin K rs → CutWithin K w rs (cut_runs K w rs)
cut_within K w rs h a = (cutting K w rs h a).cut

-- ---- Remainders

pub right_fits : (K w : ℕ) (rs : List ℕ) → w ≤ K → AllWithin K rs → right_rest K w rs ≤ K
unfolding right_rest
right_fits K w rs h a = let c = cut_within K w rs h a in omega (arith, c.fits, runs_stayed c.runs)

rests_within : (K : ℕ) (c : Chain) (before : List ℕ) → EachWithin K c → AllWithin K before
    → AllWithin K (siblings_by (right_rest K) c before)
unfolding siblings_by EachWithin AllWithin
rests_within K end before e a = a
rests_within K (node w l kids next) before e a =
    rests_within K next (right_rest K w (siblings_by (right_rest K) kids []) ∷ before) e.2
    (right_fits K w (siblings_by (right_rest K) kids []) e.0 (rests_within K kids [] e.1 tt), a)

pub kids_within : (K : ℕ) (kids : Chain) → EachWithin K kids → AllWithin K (right_rests K kids)
unfolding right_rests AllWithin
kids_within K kids e = rests_within K kids [] e tt

-- ---- A chain

-- whether a sibling may continue a run, and what a run has room for
abbrev in_run : Option ℕ → Bool
in_run (Some y) = true
in_run None = false

abbrev HasRoom : ℕ → Option ℕ → ℕ → Type 0
HasRoom K (Some y) c = y + c ≤ K
HasRoom K None c = Unit {0}

room_zero : {K x : ℕ} {rs ms : List ℕ} {o : Option ℕ} → RunsWithin K rs ms x o → HasRoom K o 0
room_zero empty = tt
room_zero (stay e v) = tt
room_zero (begin h v) = omega arith
room_zero (go e h v) = omega arith

-- The marks of a chain after some siblings: ds are the marks of both, the last first, and x is what stays of both.
data ChainLaid (K : ℕ) (c : Chain) (before ds : List ℕ) (x : ℕ) : Type 0 where
  chain_laid : {others : List ℕ} {sum stayed carried : ℕ} {run : Option ℕ} (own : List ℕ) → reverse_aux own others ≡ ds
      → RunsWithin K before others sum run → MarksLaid K (in_run run) c (lay_rightmost K c own) stayed carried
      → HasRoom K run carried → x ≡ sum + stayed → ChainLaid K c before ds x

-- what becomes of the children of a node of weight w
abbrev below : ℕ → ℕ → Chain → List ℕ
below K w kids = reverse (cut_runs K w (right_rests K kids))

-- the children of a node are laid, and the node with what stays of them weighs its remainder
record NodeLaid (K w : ℕ) (kids : Chain) : Type 0 where
  sum : ℕ
  carry : ℕ
  marks : MarksLaid K false kids (lay_rightmost K kids (below K w kids)) sum carry
  rest : w + sum ≡ right_rest K w (right_rests K kids)

-- one sibling more, before those of `next`
chain_node : {K w l x : ℕ} {kids next : Chain} {before ds : List ℕ} → NodeLaid K w kids
    → ChainLaid K next (right_rest K w (right_rests K kids) ∷ before) ds x → ChainLaid K (node w l kids next) before ds x
unfolding lay_down
chain_node {K} {w} {l} n (chain_laid own s (stay {o = o} e v) q h t) =
    chain_laid (stays ∷ own) s v (laid_stays K w l n.marks (in_run o) q) (room_zero v) (omega (arith, n.rest))
chain_node {K} {w} {l} n (chain_laid own s (begin {o = o} f v) q h t) =
    chain_laid (begins ∷ own) s v (laid_begins K w l n.marks (in_run o) q (omega (arith, n.rest))) (room_zero v) t
chain_node {K} {w} {l} n (chain_laid own s (go e f v) q h t) =
    chain_laid (continues ∷ own) s v (laid_continues K w l n.marks q) (omega (arith, n.rest)) t

node_laid : {K w : ℕ} {kids : Chain} (c : CutWithin K w (right_rests K kids) (cut_runs K w (right_rests K kids)))
    → ChainLaid K kids [] (cut_runs K w (right_rests K kids)) c.sum → NodeLaid K w kids
unfolding right_rest
node_laid {K} {w} {kids} c (chain_laid own s empty q h t) =
    let mine : own ≡ below K w kids = sym (reverse-reverse own) ∙ ap reverse s in
    record { sum = _; carry = _; marks = rw mine at q; rest = omega (arith, runs_stayed c.runs) }

cut_kids_lem : (K w : ℕ) (kids : Chain) → w ≤ K → EachWithin K kids
    → CutWithin K w (right_rests K kids) (cut_runs K w (right_rests K kids))
cut_kids_lem K w kids h e = cut_within K w (right_rests K kids) h (kids_within K kids e)

lay_chain : {K : ℕ} (c : Chain) (before : List ℕ) {ds : List ℕ} {o : Option ℕ} {x : ℕ} → EachWithin K c
    → RunsWithin K (siblings_by (right_rest K) c before) ds x o → ChainLaid K c before ds x
unfolding siblings_by EachWithin lay_down right_rests
lay_chain {K} end before {o = o} e v = chain_laid [] refl v (laid_end K (in_run o)) (room_zero v) (omega arith)
lay_chain {K} (node w l kids next) before e v =
    let c = cut_kids_lem K w kids e.0 e.1 in
    chain_node (node_laid c (lay_chain kids [] e.1 c.runs))
    (lay_chain next (right_rest K w (right_rests K kids) ∷ before) e.2 v)

-- the plan of a tree: the root's page holds the root and what stays of its children
pub rightmost_feasible : (K w l : ℕ) (kids : Chain) → EachWithin K (node w l kids end)
    → FeasibleShape K (node w l kids end) (rightmost_marks K (node w l kids end)) (right_rest K w (right_rests K kids))
unfolding rightmost_marks lay_down EachWithin right_rests
rightmost_feasible K w l kids e =
    let c = cut_kids_lem K w kids e.0 e.1 in
    let n = node_laid c (lay_chain kids [] e.1 c.runs) in
    let fits = right_fits K w (right_rests K kids) e.0 (kids_within K kids e.1) in
    rw n.rest at (feasible_tree K w l n.marks (omega (arith, n.rest)))
