-- The demands in the words of their document, as the entries promise them beside their equations. Demand 3 speaks of
-- sibling runs told from the tree alone: what the lowest plan there is means, of a planner's answer and marks and of
-- an archive's bytes, when a tree is refused for weight, and that plans and sequences of runs are the same, order
-- apart.
use Rattle.std.specs.Prelude.{ℕ, ◌+◌, ◌*◌, ◌≤◌, ◌<◌, ◌≡◌, true, false, List, [], ◌∷◌, ◌↔◌, ℤ, pos, neg_ℤ, ◌-ℤ◌, length}
use Rattle.model.specs.Basics.{pick, list_to}
use Rattle.model.specs.Table.{Bytes, max_nodes, node_count, limit_of, weight_at, label_at, next_at, table_bytes, tree_of}
use Rattle.model.specs.Leaf.{with_leaf, leaf_number, raised, leaf_table}
use Rattle.model.specs.Plan.{parent_at, page_count, page_weight}
use Rattle.model.specs.Runs.{Run, OrderApart, holds, within_limit, run_count, root_weight, runs_of, page_run}
use Rattle.model.specs.Archive.{nodes_in, pages_in, page_field_in, table_in, marks_in, archive_bytes}
use Rattle.model.specs.Sheets.{sheet_lines, sheet_bytes, sheet_count, per_cent, number_in, sheet_number, line_number}
use Rattle.model.specs.Prices.{full_fill, fill_of, total_cents}
use Rattle.model.specs.Refusals.{scratch_words, accepted_tree, feasible_plan, feasible_film, sound_form, answer_of}
use Rattle.model.specs.Refusals.{refused, outcome, judge_plan, plan_best, Written, write_archive, write_film}
use Rattle.model.specs.Refusals.{read_archive, convert_archive, plan_single, price_plan, accepted, passes, read_tree}
use Rattle.model.specs.Refusals.{parent_checks}
use Rattle.model.specs.Refusals.{Answer}
use Rattle.model.specs.declared.Edition.{Edition}
use Rattle.model.specs.declared.Verdict.TheVariants.{Feasible}

-- ---- The lowest there is

-- A sequence of sibling runs that holds the tree within the page limit has at least P runs and, where it has exactly
-- P, a root page of at least W; and the runs rs are such a sequence, with exactly P runs and root page W.
pub record Lowest (t : List ℕ) (P W : ℕ) (rs : List Run) : Type 0 where
  pub least : (qs : List Run) → holds t qs ≡ true → within_limit t qs ≡ true
      → (P ≤ run_count qs) × (run_count qs ≡ P → W ≤ root_weight t qs)
  pub held : holds t rs ≡ true
  pub within : within_limit t rs ≡ true
  pub count : run_count rs ≡ P
  pub root : root_weight t rs ≡ W

-- a sequence of runs that holds the tree within the page limit
pub record HeldWithin (t : List ℕ) : Type 0 where
  pub runs : List Run
  pub held : holds t runs ≡ true
  pub within : within_limit t runs ≡ true

-- Of the answer r to the table t: a tree of sound form is refused with 7 exactly when no sequence of sibling runs
-- holds it within the limit, and 5, which was given for a weight of 0, is never given.
pub record WeightPromise (t : List ℕ) (r : Answer) : Type 0 where
  pub seven : sound_form t ≡ true → (r.number ≡ 7) ↔ (HeldWithin t → ⊥)
  pub five : r.number ≡ 5 → ⊥

-- ---- The judge

-- the runs rs hold the tree within the page limit, with exactly P runs and root page W
pub record HeldExactly (t : List ℕ) (P W : ℕ) (rs : List Run) : Type 0 where
  pub held : holds t rs ≡ true
  pub within : within_limit t rs ≡ true
  pub count : run_count rs ≡ P
  pub root : root_weight t rs ≡ W

-- The one plan whose runs are those of the sequence qs, order apart: of marks, one a node, that the judge does not
-- find bad, it alone has these runs. The judge accepts it, with the sequence's figures, where the sequence is within
-- the page limit, and else finds a heavy page.
pub record PlanOf (t : List ℕ) (qs : List Run) : Type 0 where
  pub marks : List ℕ
  pub runs : OrderApart (runs_of t marks) qs
  pub only : (n : List ℕ) → length n ≡ node_count t → ((judge_plan t n).number ≡ 10 → ⊥) → OrderApart (runs_of t n) qs
      → n ≡ marks
  pub within : within_limit t qs ≡ true → judge_plan t marks ≡ answer_of (Feasible (run_count qs) (root_weight t qs))
  pub heavy : within_limit t qs ≡ false → (judge_plan t marks).number ≡ 11

-- What the judge says with its answer r to the table t and the marks m. Every feasible plan it accepts, with its
-- verdict. The runs of a plan that it accepts hold the tree within the page limit, with the verdict's page count and
-- root weight; those of a plan with a heavy page hold the tree too, and not within the limit. Each sequence of runs
-- that holds an accepted tree is the runs of one plan, order apart. 7 is exact.
pub record JudgePromise (t m : List ℕ) (r : Answer) : Type 0 where
  pub accepts : feasible_plan t m ≡ true → r ≡ answer_of (Feasible (page_count t m) (page_weight t m 1))
  pub held : r.number ≡ 0 → (P : ℕ) × (W : ℕ) × (r ≡ answer_of (Feasible P W)) × HeldExactly t P W (runs_of t m)
  pub heavy : r.number ≡ 11 → (holds t (runs_of t m) ≡ true) × (within_limit t (runs_of t m) ≡ false)
  pub plans : accepted_tree t ≡ true → (qs : List Run) → holds t qs ≡ true → PlanOf t qs
  pub weight : WeightPromise t r

-- ---- Planners

-- what a planner is to be lent: an accepted tree, a mark a node, and scratch enough
pub record PlanLent (t m s : List ℕ) : Type 0 where
  pub tree : accepted_tree t ≡ true
  pub marks : length m ≡ node_count t
  pub scratch : scratch_words (node_count t) (limit_of t) ≤ length s

-- What each planner says with its answer r, and the marks and the scratch that it leaves, where it was lent the
-- table t, the marks m and the scratch s. Lent what it is to be lent, it accepts: the marks are a feasible plan, and
-- its verdict has their page count and root weight. On refusal the marks and the scratch are as lent, and 7 is
-- exact.
pub record PlanPromise (t m s : List ℕ) (r : Answer) (marks scratch : List ℕ) : Type 0 where
  pub accepts : PlanLent t m s
      → (r ≡ answer_of (Feasible (page_count t marks) (page_weight t marks 1))) × (feasible_plan t marks ≡ true)
  pub kept : (r.number ≡ 0 → ⊥) → (marks ≡ m) × (scratch ≡ s)
  pub weight : WeightPromise t r

-- What the best planner says besides: lent what it is to be lent, page count and root weight of its verdict are the
-- lowest there are, and the runs of the marks that it leaves have just these.
pub record BestPromise (t m s : List ℕ) (r : Answer) (marks : List ℕ) : Type 0 where
  pub lowest : PlanLent t m s → (P : ℕ) × (W : ℕ) × (r ≡ answer_of (Feasible P W)) × Lowest t P W (runs_of t marks)

-- What a quick planner says besides, with its answer r to the table t: where it accepts, and the best planner does,
-- lent this table and whatever else, the best plan's page count is not above its own and, where both are equal, the
-- best plan's root page is not heavier.
pub record QuickPromise (t : List ℕ) (r : Answer) : Type 0 where
  pub not_below : (m s : List ℕ) (P W bestP bestW : ℕ)
      → r ≡ answer_of (Feasible P W) → (plan_best t m s).answer ≡ answer_of (Feasible bestP bestW)
      → (bestP ≤ P) × (bestP ≡ P → bestW ≤ W)

-- ---- The archive, of an edition e

-- the run in page q's record
abbrev pub run_in : Edition → List ℕ → ℕ → Run
run_in e a q = record { first = page_field_in e a q 0; last = page_field_in e a q 1 }

-- the runs in the page records, page 1 first
unfoldable pub runs_in : Edition → List ℕ → List Run
runs_in e a = list_to (pages_in e a) (λ q. run_in e a q ∷ [])

-- the weight in page record 1
unfoldable pub root_in : Edition → List ℕ → ℕ
root_in e a = page_field_in e a 1 2

-- The planner's answer p and the writer's answer r both carry the archive's page count P and the weight W in page
-- record 1. Every sequence of sibling runs that holds the table's tree within the page limit has at least P runs
-- and, where it has exactly P, a root page of at least W. The archive's own runs are such a sequence, with exactly P
-- runs and root page W.
pub record LowestOnFilm (e : Edition) (t a : List ℕ) (p r : Answer) : Type 0 where
  pub planner : p ≡ answer_of (Feasible (pages_in e a) (root_in e a))
  pub writer : r ≡ answer_of (Feasible (pages_in e a) (root_in e a))
  pub lowest : Lowest t (pages_in e a) (root_in e a) (runs_in e a)

-- the page count, the weight in page record 1 and the runs in the page records are those of the plan m
pub record PlanOnFilm (e : Edition) (t m a : List ℕ) : Type 0 where
  pub pages : pages_in e a ≡ page_count t m
  pub root : root_in e a ≡ page_weight t m 1
  pub runs : runs_in e a ≡ runs_of t m

-- What the writer says with its answer r and the archive a that it leaves, where it was lent the table t, the marks m
-- and the output out. Every feasible plan it accepts, with its verdict, where the edition takes so many nodes and the
-- output is as long as the plan's page count asks. Every archive that it writes carries the verdict's page count and
-- root weight, and the plan's own runs. Where the best planner left the marks for this table, whatever else it was
-- lent, the archive of them is the lowest. A feasible plan of a tree with more nodes than the edition takes gets 15 at
-- N, whatever the output; an edition that takes as many nodes as a table never gives 15. On refusal the output is as
-- lent, and 7 is exact.
pub record WritePromise (e : Edition) (t m out : List ℕ) (r : Answer) (a : List ℕ) : Type 0 where
  pub accepts : feasible_plan t m ≡ true → node_count t ≤ e.most
      → length out ≡ archive_bytes e (page_count t m) (node_count t)
      → r ≡ answer_of (Feasible (page_count t m) (page_weight t m 1))
  pub carries : r.number ≡ 0 → (r ≡ answer_of (Feasible (pages_in e a) (root_in e a))) × PlanOnFilm e t m a
  pub lowest : (lent scratch : List ℕ)
      → (plan_best t lent scratch).answer.number ≡ 0 → (plan_best t lent scratch).left.marks ≡ m
      → r.number ≡ 0 → LowestOnFilm e t a (plan_best t lent scratch).answer r
  pub many : feasible_plan t m ≡ true → e.most < node_count t → r ≡ refused 15 (node_count t)
  pub few : max_nodes ≤ e.most → r.number ≡ 15 → ⊥
  pub kept : (r.number ≡ 0 → ⊥) → a ≡ out
  pub weight : WeightPromise t r

-- a writer, lent the table t, the marks m and some output, accepts and leaves the archive a
pub record WrittenFrom (write : List ℕ → List ℕ → List ℕ → Written) (t m a : List ℕ) : Type 0 where
  pub bytes : Bytes t
  pub out : List ℕ
  pub accepts : (write t m out).answer.number ≡ 0
  pub leaves : (write t m out).left ≡ a

-- no label is 0
abbrev pub Filed : List ℕ → Type 0
Filed t = (v : ℕ) → 1 ≤ v → v ≤ node_count t → 1 ≤ label_at t v

-- node v is the first with label 0
pub record FirstUnfiled (t : List ℕ) (v : ℕ) : Type 0 where
  pub low : 1 ≤ v
  pub high : v ≤ node_count t
  pub label : label_at t v ≡ 0
  pub before : (u : ℕ) → 1 ≤ u → u < v → 1 ≤ label_at t u

-- What the reader says with its answer r, and the table t and the marks m that it leaves, where it was lent the
-- archive a and the buffers table and marks, and f is the other edition. Film is held against write_film: the writer
-- where the edition is filed, and else the writer without 14. An archive that this one wrote, and so every archive that
-- the writer wrote, reads back as the very table and marks it was written from, where the buffers are as long as
-- these. What is read, with its verdict, is a tree and a plan in which nothing can be refused, but for a label 0 where
-- the edition is not filed, and write_film gives this very archive for them, with this answer. Where no label is 0, as
-- always where the edition is filed, they are an accepted tree and a feasible plan, and so does the writer; where one
-- is, the writer answers 14 at the first such node, and leaves its output as lent. 13 means that no table and marks
-- write the archive with write_film; whatever else the answer is, the other edition's reader answers 13. On refusal both
-- buffers are as lent. 5 is never given.
pub record ReadPromise (e f : Edition) (a table marks : List ℕ) (r : Answer) (t m : List ℕ) : Type 0 where
  pub back : (u n : List ℕ) → WrittenFrom (write_film e) u n a → length table ≡ length u → length marks ≡ length n
      → (r.number ≡ 0) × (t ≡ u) × (m ≡ n)
  pub written : (u n : List ℕ) → WrittenFrom (write_archive e) u n a → length table ≡ length u
      → length marks ≡ length n → (r.number ≡ 0) × (t ≡ u) × (m ≡ n)
  pub sound : r.number ≡ 0
      → (r ≡ answer_of (Feasible (page_count t m) (page_weight t m 1))) × (feasible_film e t m ≡ true)
  pub again : r.number ≡ 0 → (out : List ℕ) → length out ≡ length a
      → write_film e t m out ≡ outcome r a
  pub labels : e.filed ≡ true → r.number ≡ 0 → Filed t
  pub filed : r.number ≡ 0 → Filed t
      → (feasible_plan t m ≡ true) × ((out : List ℕ) → length out ≡ length a
      → write_archive e t m out ≡ outcome r a)
  pub unfiled : r.number ≡ 0 → (v : ℕ) → FirstUnfiled t v → (out : List ℕ)
      → write_archive e t m out ≡ outcome (refused 14 v) out
  pub none : (r.number ≡ 13) ↔ ((u n : List ℕ) → WrittenFrom (write_film e) u n a → ⊥)
  pub other : (r.number ≡ 13 → ⊥) → (u n : List ℕ) → (read_archive f a u n).answer ≡ refused 13 0
  pub kept : (r.number ≡ 0 → ⊥) → (t ≡ table) × (m ≡ marks)
  pub five : r.number ≡ 5 → ⊥

-- What a converter from edition e to edition f says with its answer r and the archive b that it leaves, where it was
-- lent the archive a and the output out. 13 means that no table and marks write the archive a with write_film, which is
-- what its edition's reader means by it. Else a label 0 gets 14 at the first such node, which a filed edition's film
-- never has; and where no label is 0, more nodes than f takes get 15 at N, which never are where f takes as many as e;
-- and an output of the right length is written. Then b carries the answer's page count and root weight, and the runs of
-- the plan that a tells; it is read, with whatever buffers, as a is; converted back, it gives the very bytes of a; and
-- where the marks that a tells are those that the best planner left for the table that it tells, b is the lowest. On
-- refusal the output is as lent. 5 is never given.
pub record ConvertPromise (e f : Edition) (a out : List ℕ) (r : Answer) (b : List ℕ) : Type 0 where
  pub none : (r.number ≡ 13) ↔ ((u n : List ℕ) → WrittenFrom (write_film e) u n a → ⊥)
  pub unfiled : (r.number ≡ 13 → ⊥) → (v : ℕ) → FirstUnfiled (table_in e a) v → r ≡ refused 14 v
  pub labels : e.filed ≡ true → r.number ≡ 14 → ⊥
  pub many : (r.number ≡ 13 → ⊥) → Filed (table_in e a) → f.most < nodes_in e a → r ≡ refused 15 (nodes_in e a)
  pub few : e.most ≤ f.most → r.number ≡ 15 → ⊥
  pub accepts : (r.number ≡ 13 → ⊥) → Filed (table_in e a) → nodes_in e a ≤ f.most
      → length out ≡ archive_bytes f (pages_in e a) (nodes_in e a) → r.number ≡ 0
  pub carries : r.number ≡ 0
      → (r ≡ answer_of (Feasible (pages_in f b) (root_in f b))) × PlanOnFilm f (table_in e a) (marks_in e a) b
  pub same : r.number ≡ 0 → (table marks : List ℕ) → read_archive f b table marks ≡ read_archive e a table marks
  pub back : r.number ≡ 0 → (lent : List ℕ) → length lent ≡ length a
      → convert_archive f e b lent ≡ outcome r a
  pub lowest : (lent scratch : List ℕ)
      → (plan_best (table_in e a) lent scratch).answer.number ≡ 0
      → (plan_best (table_in e a) lent scratch).left.marks ≡ marks_in e a
      → r.number ≡ 0 → LowestOnFilm f (table_in e a) b (plan_best (table_in e a) lent scratch).answer r
  pub kept : (r.number ≡ 0 → ⊥) → b ≡ out
  pub five : r.number ≡ 5 → ⊥

-- ---- Leader sheets

-- the line of page p, read by its columns
pub record PageTold (t m a : List ℕ) (p : ℕ) : Type 0 where
  pub number : number_in a (sheet_number p) (line_number p) 1 6 ≡ p
  pub first : number_in a (sheet_number p) (line_number p) 7 6 ≡ (page_run t m p).first
  pub last : number_in a (sheet_number p) (line_number p) 13 6 ≡ (page_run t m p).last
  pub weight : number_in a (sheet_number p) (line_number p) 19 6 ≡ page_weight t m p
  pub share : number_in a (sheet_number p) (line_number p) 25 4 ≡ per_cent (page_weight t m p) (limit_of t)

-- What the printer says with its answer r and the sheets a that it leaves, where it was lent the table t, the marks m
-- and the output out. Every feasible plan it prints, with its verdict, where the output is as long as its sheets. Read
-- by their columns, they tell each page, the plan's page count on every sheet, and the sheet's number. On refusal the
-- output is as lent, and 7 is exact.
pub record PrintPromise (t m out : List ℕ) (r : Answer) (a : List ℕ) : Type 0 where
  pub accepts : feasible_plan t m ≡ true → length out ≡ sheet_bytes * sheet_count (page_count t m)
      → r ≡ answer_of (Feasible (page_count t m) (page_weight t m 1))
  pub pages : r.number ≡ 0 → (p : ℕ) → 1 ≤ p → p ≤ page_count t m → PageTold t m a p
  pub sheets : r.number ≡ 0 → (s : ℕ) → 1 ≤ s → s ≤ sheet_count (page_count t m)
      → (number_in a s 1 7 6 ≡ page_count t m) × (number_in a s sheet_lines 1 6 ≡ s)
  pub kept : (r.number ≡ 0 → ⊥) → a ≡ out
  pub weight : WeightPromise t r

-- ---- The film maker's price

-- What the price says with its answer r and the cents, of the table t and the marks m. Every feasible plan has its
-- price, with the judge's verdict: the sum over its pages, from 90 to 410 cents each. A page's fill has an entry among
-- the prices, and the last exactly where the page weighs K. On refusal there are no cents, and 7 is exact.
pub record PricePromise (t m : List ℕ) (r : Answer) (cents : ℕ) : Type 0 where
  pub accepts : feasible_plan t m ≡ true
      → (r ≡ answer_of (Feasible (page_count t m) (page_weight t m 1))) × (cents ≡ total_cents t m)
  pub range : r.number ≡ 0 → (90 * page_count t m ≤ cents) × (cents ≤ 410 * page_count t m)
  pub fills : r.number ≡ 0 → (p : ℕ) → 1 ≤ p → p ≤ page_count t m
      → (fill_of (page_weight t m p) (limit_of t) ≤ full_fill)
      × ((fill_of (page_weight t m p) (limit_of t) ≡ full_fill) ↔ (page_weight t m p ≡ limit_of t))
  pub refuses : (r.number ≡ 0 → ⊥) → cents ≡ 0
  pub weight : WeightPromise t r

-- z is a less b, over the integers: exact above, at and below zero
pub record Difference (a b : ℕ) (z : ℤ) : Type 0 where
  pub exact : z ≡ pos a -ℤ pos b
  pub above : (n : ℕ) → a ≡ b + n → z ≡ pos n
  pub below : (n : ℕ) → b ≡ a + n → z ≡ neg_ℤ (pos n)

-- What the saving says with its answer r, the saving z in cents, and the marks and the scratch that it leaves, where it
-- was lent the table t, the marks m and the scratch s. It promises all that the best planner does. Where it accepts, it
-- gives the price of the marks that the single planner leaves for this table, whatever else that one is lent, less the
-- price of the marks that it leaves itself; nothing is said of which is higher. On refusal there is no saving.
pub record SavingPromise (t m s : List ℕ) (r : Answer) (z : ℤ) (marks scratch : List ℕ) : Type 0 where
  pub plan : PlanPromise t m s r marks scratch
  pub best : BestPromise t m s r marks
  pub saving : r.number ≡ 0 → (lent words : List ℕ) → (plan_single t lent words).answer.number ≡ 0
      → Difference (price_plan t (plan_single t lent words).left.marks).left (price_plan t marks).left z
  pub refuses : (r.number ≡ 0 → ⊥) → z ≡ pos 0

-- ---- A late leaf

-- an accepted tree with room for one node more, and a node of it
pub record TakesLeaf (t : List ℕ) (v : ℕ) : Type 0 where
  pub tree : accepted_tree t ≡ true
  pub room : node_count t < max_nodes
  pub low : 1 ≤ v
  pub high : v ≤ node_count t

-- node u of the table has this weight, this label and this parent
pub record NodeIs (t : List ℕ) (u weight label parent : ℕ) : Type 0 where
  pub weighs : weight_at t u ≡ weight
  pub labelled : label_at t u ≡ label
  pub below : parent_at t u ≡ parent

-- What a leaf costs, where P and W are page count and root weight of the lowest plan of a tree, and P' and W' those of
-- the lowest plan of the tree with the leaf: no page fewer, one page more at most and, with as many pages, a root page
-- that is not lighter.
pub record LeafCost (P W P' W' : ℕ) : Type 0 where
  pub no_fewer : P ≤ P'
  pub one_more : P' ≤ P + 1
  pub no_lighter : P' ≡ P → W ≤ W'

-- the tree that 7 is said of: with the leaf where node v can get it, and else the tree as it is
unfoldable pub tree_asked : List ℕ → ℕ → ℕ → ℕ → List ℕ
tree_asked t v w l = pick (passes (parent_checks t v)) (leaf_table t v w l) t

-- What the entry says with its answer r and the table a that it leaves, where it was lent the table t, the node v, the
-- leaf's weight w and label l, and the output out. Where the tree takes the leaf, the leaf is fit for the table and the
-- output is as long as the new table, it accepts. Then a is a table of one node more under the same limit, which the
-- tree reader accepts. Its tree is the old one with the leaf as the last child of node v, by shape, and by number: the
-- leaf comes after node v and all below it, and has no sibling after it; every other node has its weight, its label and
-- its parent, and nodes from the leaf's number on are one higher. The leaf costs one page at most, in words of runs and
-- of what the best planner answers for the two tables, whatever else it is lent. A table that the tree reader refuses
-- is refused as it does. Of an accepted one 16 is given, at the node that was named, exactly where it takes no leaf
-- there; and what the tree reader refuses in the table with the leaf is refused as it does. On refusal the output is as
-- lent, and 7 is exact.
pub record LeafPromise (t : List ℕ) (v w l : ℕ) (out : List ℕ) (r : Answer) (a : List ℕ) : Type 0 where
  pub accepts : TakesLeaf t v → w ≤ limit_of t → 1 ≤ l → length out ≡ table_bytes (node_count t + 1) → r ≡ accepted
  pub reads : r.number ≡ 0
      → (read_tree a ≡ accepted) × (node_count a ≡ node_count t + 1) × (limit_of a ≡ limit_of t)
  pub tree : r.number ≡ 0 → tree_of a ≡ with_leaf v w l 0 (tree_of t)
  pub placed : r.number ≡ 0 → NodeIs a (leaf_number t v) w l v × (next_at a (leaf_number t v) ≡ 0)
  pub others : r.number ≡ 0 → (u : ℕ) → 1 ≤ u → u ≤ node_count t
      → NodeIs a (raised (leaf_number t v) u) (weight_at t u) (label_at t u) (raised (leaf_number t v) (parent_at t u))
  pub cost : r.number ≡ 0 → (P W P' W' : ℕ) (rs rs' : List Run) → Lowest t P W rs → Lowest a P' W' rs'
      → LeafCost P W P' W'
  pub best : r.number ≡ 0 → (m s m' s' : List ℕ) (P W P' W' : ℕ)
      → (plan_best t m s).answer ≡ answer_of (Feasible P W) → (plan_best a m' s').answer ≡ answer_of (Feasible P' W')
      → LeafCost P W P' W'
  pub own : (accepted_tree t ≡ true → ⊥) → r ≡ read_tree t
  pub sixteen : accepted_tree t ≡ true → (r ≡ refused 16 v) ↔ (TakesLeaf t v → ⊥)
  pub leaf : TakesLeaf t v → ((read_tree (leaf_table t v w l)).number ≡ 0 → ⊥) → r ≡ read_tree (leaf_table t v w l)
  pub weight : WeightPromise (tree_asked t v w l) r
  pub kept : (r.number ≡ 0 → ⊥) → a ≡ out
