-- The marks that best and level lay from the root down weigh what their entries say.
-- Defines Figured, pages_below, pages_of. Proves laid_feasible: these marks are allowed, every page is within K, and
-- the page count and the root page are the entries'. Assumes nothing.
use Rattle.std.specs.Prelude.{ℕ, suc, ◌+◌, ◌≤◌, ◌≡◌, refl, Bool, true, false, length}
use Rattle.std.proofs.Common.{sym, ap, ◌∙◌, arith}
use mathlib.Core.List.{List, [], ◌∷◌, reverse, reverse_aux, reverse-reverse}
use Rattle.model.specs.Basics.{pick}
use Rattle.model.specs.Table.{Chain, end, node}
use Rattle.model.specs.Plan.{stays, begins, continues}
use Rattle.model.specs.Steps.{Child, Choice, entry_at, child_of, children_from, children_of, choices_of, lay_marks, lay_down, siblings_by}
use Rattle.model.specs.Steps.{root_choice}
use Rattle.theory.specs.PlanShape.{weighed, EachWithin}
use Rattle.theory.specs.PlanLaid.{FeasibleShape, feasible_tree}
use Rattle.theory.specs.PlanWeighs.{Weighs, weighs_end, weighs_stays, weighs_begins, weighs_continues}
use Rattle.theory.specs.BestGreedy.{Offers, best, second}
use Rattle.theory.specs.BestLevel.{Fair, RunSoFar, no_run, a_run, Level, empty, stay, begin, go, run_within}
use Rattle.theory.specs.BestNodes.{best_entry, node_rest, node_best, node_second, children_fair}

-- the pages that begin in a chain and below it where each node follows its best plan: the counts of their best
-- entries
unfoldable pub pages_below : Bool → ℕ → Chain → ℕ
pages_below gains K end = 0
pages_below gains K (node w l kids next) =
    (best_entry K w (children_of gains K kids)).count + pages_below gains K kids + pages_below gains K next

-- ---- A node and a chain

-- the marks laid below a node, which follows its best plan or its second
abbrev marks_below : Bool → ℕ → ℕ → Chain → Bool → List ℕ
marks_below gains K w kids b = lay_marks gains K kids (choices_of gains K w kids b)

-- a node that follows a plan with e pages more than its best, and rest r
record NodeLaid (gains : Bool) (K w : ℕ) (kids : Chain) (b : Bool) (e r : ℕ) : Type 0 where
  sum : ℕ
  carry : ℕ
  pages : ℕ
  marks : Weighs K false kids (marks_below gains K w kids b) sum carry pages
  total : w + sum ≡ r
  more : pages ≡ (best_entry K w (children_of gains K kids)).count + pages_below gains K kids + e

-- whether a sibling may continue a run
abbrev in_run_so_far : RunSoFar → Bool
in_run_so_far no_run = false
in_run_so_far (a_run y) = true

-- the run so far has room for what is carried to it
abbrev HasRoom : ℕ → RunSoFar → ℕ → Type 0
HasRoom K no_run c = Unit {0}
HasRoom K (a_run y) c = y + c ≤ K

room_zero : {K n x : ℕ} {ks : List Child} {cs : List Choice} (o : RunSoFar) → Level K ks cs n x o → HasRoom K o 0
room_zero no_run l = tt
room_zero (a_run y) l = omega (arith, run_within l)

-- The marks of a chain after some siblings, laid under the choices ds of a plan of the level with n pages, and x
-- that stays: the choices are split into those of the chain and those of the siblings before, for which the plan is
-- one too.
data ChainLaid (gains : Bool) (K : ℕ) (c : Chain) (before : List Child) (ds : List Choice) (n x : ℕ) : Type 0 where
  chain_laid : {others : List Choice} {count sum stayed carried pages : ℕ} {run : RunSoFar} (own : List Choice)
      → reverse_aux own others ≡ ds
      → Level K before others count sum run
      → Weighs K (in_run_so_far run) c (lay_marks gains K c own) stayed carried pages
      → HasRoom K run carried
      → x ≡ sum + stayed
      → n + pages_below gains K c ≡ count + pages
      → ChainLaid gains K c before ds n x

chain_laid_end : {gains : Bool} {K n x : ℕ} {before : List Child} {ds : List Choice} {o : RunSoFar}
    → Level K before ds n x o → ChainLaid gains K end before ds n x
unfolding lay_down pages_below
chain_laid_end {K = K} {o = o} l =
    chain_laid [] refl l (weighs_end K (in_run_so_far o)) (room_zero o l) (omega arith) (omega arith)

-- what a node's children weigh under each plan that it offers
abbrev Offering : Bool → ℕ → ℕ → Chain → Type 0
Offering gains K w kids =
    (b : Bool) (e r : ℕ) → Offers (child_of gains K w (children_of gains K kids)) b e r → NodeLaid gains K w kids b e r

-- one sibling more, before those of `next`
chain_laid_node : {gains : Bool} {K w l n x : ℕ} {kids next : Chain} {before : List Child} {ds : List Choice}
    → Offering gains K w kids
    → ChainLaid gains K next (child_of gains K w (children_of gains K kids) ∷ before) ds n x
    → ChainLaid gains K (node w l kids next) before ds n x
unfolding lay_down pages_below
chain_laid_node {w = w} {l} {kids = kids} {next} kid (chain_laid own s (stay {o = o} e v) q h t u) =
    let p : NodeLaid _ _ w kids false 0 _ = kid false 0 _ (best refl refl) in
    chain_laid (record { mark = stays; second = false } ∷ own) s v
    (weighs_stays w l kids next _ _ (in_run_so_far o) p.marks q) (room_zero o v) (omega arith) (omega arith)
chain_laid_node {w = w} {l} {kids = kids} {next} kid (chain_laid own s (begin {b = b} {o = o} f c e v) q h t u) =
    let p : NodeLaid _ _ w kids b _ _ = kid b _ _ f in
    chain_laid (record { mark = begins; second = b } ∷ own) s v
    (weighs_begins w l kids next _ _ (in_run_so_far o) p.marks q (omega arith)) (room_zero o v) t (omega arith)
chain_laid_node {w = w} {l} {kids = kids} {next} kid (chain_laid own s (go {b = b} f c d e v) q h t u) =
    let p : NodeLaid _ _ w kids b _ _ = kid b _ _ f in
    chain_laid (record { mark = continues; second = b } ∷ own) s v
    (weighs_continues w l kids next _ _ p.marks q) (omega arith) t (omega arith)

-- the children of a node, under the plan that the node follows
node_laid : {gains : Bool} {K n w x e r : ℕ} {b : Bool} {kids : Chain} {ds : List Choice}
    → ChainLaid gains K kids [] ds n x
    → reverse ds ≡ choices_of gains K w kids b
    → w + x ≡ r
    → n ≡ (best_entry K w (children_of gains K kids)).count + e
    → NodeLaid gains K w kids b e r
node_laid (chain_laid own s (empty e f) m h t u) c q v =
    let mine = sym (reverse-reverse own) ∙ ap reverse s ∙ c in
    record { sum = _; carry = _; pages = _; marks = rw mine at m; total = omega arith; more = omega arith }

-- every plan that a node offers is laid below it as it is offered
offering : (gains : Bool) (K w : ℕ) (kids : Chain) → Fair K (children_of gains K kids) → w ≤ K
    → ((ds : List Choice) (n x : ℕ) (o : RunSoFar) → Level K (children_of gains K kids) ds n x o
    → ChainLaid gains K kids [] ds n x)
    → Offering gains K w kids
unfolding choices_of pick
offering gains K w kids f h lay b e r (best p q) =
    let ks : List Child = children_of gains K kids in
    let b = node_best K w ks f h in
    node_laid (lay _ _ _ _ b.level) refl (omega (arith, b.total, node_rest gains K w ks)) (omega arith)
offering gains K w kids f h lay b e r (second p g q) =
    let ks : List Child = children_of gains K kids in
    let b = node_second K w ks f h gains g in
    let total = b.total in
    node_laid (lay _ _ _ _ b.level) refl (omega (arith, node_rest gains K w ks)) (omega (arith, b.more))

lay_chain : (gains : Bool) {K n x : ℕ} (c : Chain) (before : List Child) {ds : List Choice} {o : RunSoFar}
    → EachWithin K c → Level K (children_from gains K c before) ds n x o → ChainLaid gains K c before ds n x
unfolding siblings_by children_of EachWithin
lay_chain gains end before e l = chain_laid_end l
lay_chain gains {K} (node w z kids next) before e l =
    chain_laid_node
    (offering gains K w kids (children_fair gains K kids [] e.1 tt) e.0
    (λ ds n x o v. lay_chain gains kids [] e.1 v))
    (lay_chain gains next (child_of gains K w (children_from gains K kids []) ∷ before) e.2 l)

-- ---- The whole tree

-- a feasible plan of a tree, with its page count and the weight of the root's page
pub record Figured (K : ℕ) (c : Chain) (ms : List ℕ) (pages root : ℕ) : Type 0 where
  pub feasible : FeasibleShape K c ms root
  pub count : length (weighed c ms).pages ≡ pages

-- the page count of best or level by its entries: a page for the root, and the count of each node's best entry
abbrev pub pages_of : Bool → ℕ → Chain → ℕ
pages_of gains K c = suc (pages_below gains K c)

pub laid_feasible : (gains : Bool) (K w l : ℕ) (kids : Chain) → EachWithin K (node w l kids end)
    → Figured K (node w l kids end) (lay_marks gains K (node w l kids end) root_choice)
    (pages_of gains K (node w l kids end)) (entry_at K (children_of gains K kids) w).rest
unfolding lay_down children_of EachWithin pages_below
laid_feasible gains K w l kids e =
    let ks : List Child = children_of gains K kids in
    let f : Fair K ks = children_fair gains K kids [] e.1 tt in
    let p = offering gains K w kids f e.0 (λ ds n x o v. lay_chain gains kids [] e.1 v)
    false 0 _ (best refl refl) in
    let b = node_best K w ks f e.0 in
    let total : w + p.sum ≡ (best_entry K w ks).rest = omega (arith, p.total, node_rest gains K w ks) in
    let q = weighs_begins w l kids end _ [] false p.marks (weighs_end K true) (omega arith) in
    record {
      feasible = rw total at (feasible_tree K w l (record { count = _; weighs = p.marks }) (omega arith));
      count = omega (arith, q.pages_are, p.more);
    }
