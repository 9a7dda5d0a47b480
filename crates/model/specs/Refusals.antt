-- Document 01, 'What is refused', with 14 to 16 and without 5 by document 02: the list of refusals, the checks of each
-- entry in their order, and for each entry its answer and every lent buffer left behind, as one definition of all it
-- was lent.
use Rattle.std.specs.Prelude.{ℕ, ◌+◌, ◌*◌, Bool, true, false, not, ◌&&◌, ◌||◌, List, [], ◌∷◌, ◌++◌, ℤ, pos, length, replicate, eqb, ltb, leb}
use Rattle.model.specs.Basics.{pick, when, at_place, first_to, same_list}
use Rattle.model.specs.Table.{max_nodes, max_limit, node_count, limit_of, weight_at, label_at, table_bytes, walk_place}
use Rattle.model.specs.Table.{Chain, tree_of}
use Rattle.model.specs.Leaf.{leaf_number, leaf_table}
use Rattle.model.specs.Plan.{bad_mark, heavy_page, page_count, verdict_of}
use Rattle.model.specs.Steps.{best_marks, level_marks, single_marks, pair_marks, rightmost_marks, depth_first_marks}
use Rattle.model.specs.Archive.{archive_of, archive_bytes, nodes_in, table_in, marks_in}
use Rattle.model.specs.Sheets.{sheet_bytes, sheet_count, sheets_of}
use Rattle.model.specs.Prices.{total_cents, saving_of}
use Rattle.std.specs.declared.option.Option.{Option}
use Rattle.std.specs.declared.option.Option.TheVariants.{Some, None}
use Rattle.std.specs.declared.result.Result.{Result}
use Rattle.std.specs.declared.result.Result.TheVariants.{Ok, Err}
use Rattle.model.specs.declared.Cause.TheVariants.{BadMark, HeavyPage}
use Rattle.model.specs.declared.Verdict.{Verdict}
use Rattle.model.specs.declared.Verdict.TheVariants.{Feasible, Failed}
use Rattle.model.specs.declared.PlanSize.{PlanSize}
use Rattle.model.specs.declared.Price.{Price}
use Rattle.model.specs.declared.Refusal.{Refusal}
use Rattle.model.specs.declared.Refusal.TheVariants.{ShortTable, BadCount, BadLimit, BadLength, BadWalk, HeavyNode, BadMarks}
use Rattle.model.specs.declared.Refusal.TheVariants.{ShortScratch, PlanFailed, BadOutput, NoArchive, NoLabel, ManyNodes}
use Rattle.model.specs.declared.Saving.{Saving}
use Rattle.model.specs.declared.Edition.{Edition}

-- ---- Rules: what is asked of a tree and a plan beyond what all are held to

pub record Rules : Type 0 where
  -- no label is 0 (14)
  pub filed : Bool

-- of what is handed in
abbrev pub plain_rules : Rules
plain_rules = record { filed = true }

-- of film of an edition: where the edition is not filed, film written before 14 was given may have labels 0
abbrev pub film_rules : Edition → Rules
film_rules e = record { filed = e.filed }

-- of the edition's writer, which never writes a label 0
abbrev pub writer_rules : Edition → Rules
writer_rules e = record { filed = true }

-- ---- Answers

-- A number and a place, 0 and 0 for acceptance, and what stands beside them: the judge's verdict with acceptance and
-- with 10 and 11, wherever a plan is given or made; and nothing with every other refusal, and from the tree reader.
pub record Answer : Type 0 where
  pub number : ℕ
  pub place : ℕ
  pub beside : Option Verdict

-- document 01's number and place for each case of the verdict
abbrev pub number_of : Verdict → ℕ
number_of (Feasible pages root) = 0
number_of (Failed (BadMark v)) = 10
number_of (Failed (HeavyPage p)) = 11

abbrev pub place_of : Verdict → ℕ
place_of (Feasible pages root) = 0
place_of (Failed (BadMark v)) = v
place_of (Failed (HeavyPage p)) = p

-- the answer with a verdict: the one way from a verdict to its number and place
abbrev pub answer_of : Verdict → Answer
answer_of v = record { number = number_of v; place = place_of v; beside = Some v }

-- with no verdict: every other refusal, and acceptance where no plan is given or made
abbrev pub refused : ℕ → ℕ → Answer
refused n p = record { number = n; place = p; beside = None }

abbrev pub accepted : Answer
accepted = record { number = 0; place = 0; beside = None }

-- document 01's number and place for each refusal, and the verdict where it is a plan's that failed
abbrev pub refusal_answer : Refusal → Answer
refusal_answer ShortTable = refused 1 0
refusal_answer (BadCount n) = refused 2 n
refusal_answer (BadLimit k) = refused 3 k
refusal_answer (BadLength size) = refused 4 size
refusal_answer (BadWalk met) = refused 6 met
refusal_answer (HeavyNode v) = refused 7 v
refusal_answer (BadMarks n) = refused 8 n
refusal_answer (ShortScratch words) = refused 9 words
refusal_answer (PlanFailed cause) = answer_of (Failed cause)
refusal_answer (BadOutput size) = refused 12 size
refusal_answer NoArchive = refused 13 0
refusal_answer (NoLabel v) = refused 14 v
refusal_answer (ManyNodes n) = refused 15 n

-- the answer that a result tells: of the tree reader, whatever it gives with acceptance; of the judge; and of whoever
-- is given or makes a plan, and accepts a feasible one alone
abbrev pub tree_told : {A : Type 0} → Result A Refusal → Answer
tree_told (Ok tree) = accepted
tree_told (Err r) = refusal_answer r

abbrev pub verdict_told : Result Verdict Refusal → Answer
verdict_told (Ok v) = answer_of v
verdict_told (Err r) = refusal_answer r

abbrev pub plan_told : Result PlanSize Refusal → Answer
plan_told (Ok size) = answer_of (Feasible size.pages size.root)
plan_told (Err r) = refusal_answer r

-- a check: the answer that it gives at a place, and its place where its condition holds
pub record Check : Type 0 where
  pub answer : ℕ → Answer
  pub place : Option ℕ

-- a check that a rule asks for: where it does not, the check applies nowhere
unfoldable pub asked : Bool → Check → Check
asked rule c = record { answer = c.answer; place = pick rule c.place None }

-- ---- The list

-- 1: table under 4 bytes; place 0
unfoldable pub short_table : List ℕ → Check
short_table t = record { answer = refused 1; place = when (ltb (length t) 4) 0 }

-- 2: N is 0 or over 2,048; place N
unfoldable pub bad_count : List ℕ → Check
bad_count t =
    let n : ℕ = node_count t in record { answer = refused 2; place = when (eqb n 0 || ltb max_nodes n) n }

-- 3: K is 0 or over 1,024; place K
unfoldable pub bad_limit : List ℕ → Check
bad_limit t =
    let k : ℕ = limit_of t in record { answer = refused 3; place = when (eqb k 0 || ltb max_limit k) k }

-- 4: length is not 4 + 8 × N; place the right length
unfoldable pub bad_length : List ℕ → Check
bad_length t =
    let size : ℕ = table_bytes (node_count t) in
    record { answer = refused 4; place = when (not (eqb (length t) size)) size }

-- 5 is retired: it was given for a weight of 0, which is allowed everywhere since document 02, Three

-- 6: the walk fails; place 0 if node 1 has a sibling, else the nodes met in order before it failed
unfoldable pub bad_walk : List ℕ → Check
bad_walk t = record { answer = refused 6; place = walk_place t }

-- 7: a node outweighs K; place the first such node
unfoldable pub heavy_node : List ℕ → Check
heavy_node t = record { answer = refused 7; place = first_to (node_count t) (λ v. ltb (limit_of t) (weight_at t v)) }

-- 8: marks buffer is not N long; place N
unfoldable pub bad_marks : ℕ → List ℕ → Check
bad_marks n m = record { answer = refused 8; place = when (not (eqb (length m) n)) n }

-- 9: a planner's scratch is under 4 × N × (K + 3) 32-bit words; place that number
abbrev pub scratch_words : ℕ → ℕ → ℕ
scratch_words n k = 4 * n * (k + 3)

unfoldable pub short_scratch : List ℕ → List ℕ → Check
short_scratch t s =
    let words : ℕ = scratch_words (node_count t) (limit_of t) in
    record { answer = refused 9; place = when (ltb (length s) words) words }

-- 10: a mark is not allowed; place the first such node
unfoldable pub mark_refused : List ℕ → List ℕ → Check
mark_refused t m = record { answer = λ v. answer_of (Failed (BadMark v)); place = bad_mark t m }

-- 11: a page exceeds K; place the first such page
unfoldable pub page_refused : List ℕ → List ℕ → Check
page_refused t m = record { answer = λ p. answer_of (Failed (HeavyPage p)); place = heavy_page t m }

-- 12: output buffer has the wrong length; place the right length
unfoldable pub bad_output : ℕ → List ℕ → Check
bad_output size out = record { answer = refused 12; place = when (not (eqb (length out) size)) size }

-- 13: no tree and plan write this archive with the writer that film of its edition is held against; place 0
unfoldable pub no_archive : Bool → Check
no_archive written = record { answer = refused 13; place = when (not written) 0 }

-- 14: a label is 0, for a lot that nobody has filed; place the first such node
unfoldable pub no_label : List ℕ → Check
no_label t = record { answer = refused 14; place = first_to (node_count t) (λ v. eqb (label_at t v) 0) }

-- 15: more nodes than the edition takes; place N
unfoldable pub many_nodes : Edition → List ℕ → Check
many_nodes e t =
    let n : ℕ = node_count t in record { answer = refused 15; place = when (ltb e.most n) n }

-- 16: the tree has 2,048 nodes already, or the named node is not in 1 to N; place the named node
unfoldable pub no_parent : List ℕ → ℕ → Check
no_parent t v =
    let n : ℕ = node_count t in
    record { answer = refused 16; place = when (leb max_nodes n || (eqb v 0 || ltb n v)) v }

-- 14 and 7 of a leaf that is put in below node v; place the leaf's number
unfoldable pub unfiled_leaf : List ℕ → ℕ → ℕ → Check
unfiled_leaf t v l = record { answer = refused 14; place = when (eqb l 0) (leaf_number t v) }

unfoldable pub heavy_leaf : List ℕ → ℕ → ℕ → Check
heavy_leaf t v w = record { answer = refused 7; place = when (ltb (limit_of t) w) (leaf_number t v) }

-- ---- The order: its parts, and for each entry those that it checks

-- the head and the length
unfoldable pub head_checks : List ℕ → List Check
head_checks t = short_table t ∷ bad_count t ∷ bad_limit t ∷ bad_length t ∷ []

-- the nodes and their links
unfoldable pub node_checks : Bool → List ℕ → List Check
node_checks filed t = asked filed (no_label t) ∷ bad_walk t ∷ []

-- the nodes' weights against the limit
unfoldable pub weight_checks : List ℕ → List Check
weight_checks t = heavy_node t ∷ []

-- the buffers that a planner is lent
unfoldable pub lent_checks : List ℕ → List ℕ → List ℕ → List Check
lent_checks t m s = bad_marks (node_count t) m ∷ short_scratch t s ∷ []

-- what is found in a plan that is given: each with the verdict beside it
unfoldable pub found_checks : List ℕ → List ℕ → List Check
found_checks t m = mark_refused t m ∷ page_refused t m ∷ []

-- a plan that is given
unfoldable pub mark_checks : List ℕ → List ℕ → List Check
mark_checks t m = bad_marks (node_count t) m ∷ found_checks t m

-- the film that is to be written
unfoldable pub film_checks : Edition → List ℕ → List ℕ → List ℕ → List Check
film_checks e t m out = many_nodes e t ∷ bad_output (archive_bytes e (page_count t m) (node_count t)) out ∷ []

-- the leader sheets that are to be printed
unfoldable pub sheet_checks : List ℕ → List ℕ → List ℕ → List Check
sheet_checks t m out = bad_output (sheet_bytes * sheet_count (page_count t m)) out ∷ []

-- the buffers that an archive is read into
unfoldable pub back_checks : ℕ → List ℕ → List ℕ → List Check
back_checks n t m = bad_output (table_bytes n) t ∷ bad_marks n m ∷ []

unfoldable pub form_checks : Bool → List ℕ → List Check
form_checks filed t = head_checks t ++ node_checks filed t

unfoldable pub tree_checks : Bool → List ℕ → List Check
tree_checks filed t = form_checks filed t ++ weight_checks t

unfoldable pub plan_checks : List ℕ → List ℕ → List ℕ → List Check
plan_checks t m s = tree_checks true t ++ lent_checks t m s

unfoldable pub judge_checks : Rules → List ℕ → List ℕ → List Check
judge_checks r t m = tree_checks r.filed t ++ mark_checks t m

unfoldable pub write_checks : Rules → Edition → List ℕ → List ℕ → List ℕ → List Check
write_checks r e t m out = judge_checks r t m ++ film_checks e t m out

unfoldable pub print_checks : List ℕ → List ℕ → List ℕ → List Check
print_checks t m out = judge_checks plain_rules t m ++ sheet_checks t m out

-- a tree, and the node of it that a leaf is put in below
unfoldable pub parent_checks : List ℕ → ℕ → List Check
parent_checks t v = tree_checks true t ++ (no_parent t v ∷ [])

-- the leaf
unfoldable pub leaf_checks : List ℕ → ℕ → ℕ → ℕ → List Check
leaf_checks t v w l = unfiled_leaf t v l ∷ heavy_leaf t v w ∷ []

-- the table that is to be written
unfoldable pub table_checks : ℕ → List ℕ → List Check
table_checks n out = bad_output (table_bytes n) out ∷ []

unfoldable pub add_checks : List ℕ → ℕ → ℕ → ℕ → List ℕ → List Check
add_checks t v w l out = parent_checks t v ++ (leaf_checks t v w l ++ table_checks (node_count t + 1) out)

-- no check of the list applies
unfoldable pub passes : List Check → Bool
passes [] = true
passes (c ∷ cs) = at_place c.place (λ p. false) (passes cs)

-- A tree is of sound form when nothing that is checked before 7 applies to it, accepted when 7 does not apply to it
-- either, and refused for weight means 7.
unfoldable pub sound_form : List ℕ → Bool
sound_form t = passes (form_checks true t)

unfoldable pub accepted_tree : List ℕ → Bool
accepted_tree t = passes (tree_checks true t)

unfoldable pub refused_for_weight : List ℕ → Bool
refused_for_weight t = sound_form t && not (accepted_tree t)

-- the judge under these rules finds nothing
abbrev pub feasible_by : Rules → List ℕ → List ℕ → Bool
feasible_by r t m = passes (judge_checks r t m)

-- a plan of an accepted tree is feasible when the judge finds nothing
unfoldable pub feasible_plan : List ℕ → List ℕ → Bool
feasible_plan t m = feasible_by plain_rules t m

-- and on film of an edition when the judge that film is held against finds nothing
unfoldable pub feasible_film : Edition → List ℕ → List ℕ → Bool
feasible_film e t m = feasible_by (film_rules e) t m

-- ---- The entries

-- the first check that applies answers; where none does, the answer is a
unfoldable pub first_of : List Check → Answer → Answer
first_of [] a = a
first_of (c ∷ cs) a = at_place c.place c.answer (first_of cs a)

-- an answer, and what is left: every buffer that was lent, an amount, or both
pub record Outcome (Told Left : Type 0) : Type 0 where
  pub answer : Told
  pub left : Left

abbrev pub outcome : {Told Left : Type 0} → Told → Left → Outcome Told Left
outcome r x = record { answer = r; left = x }

-- An entry over a list of checks, with a plan or without: where none applies the answer is a, and what is done is left;
-- else the first that applies answers, and what was lent is left as it was.
unfoldable pub checked : {Left : Type 0} → List Check → Answer → Left → Left → Outcome Answer Left
checked cs a done lent = outcome (first_of cs a) (pick (passes cs) done lent)

-- the tree reader
unfoldable pub read_tree : List ℕ → Answer
read_tree t = first_of (tree_checks true t) accepted

-- the judge of plans, under rules, and of plans that are handed in
abbrev pub judge_by : Rules → List ℕ → List ℕ → Answer
judge_by r t m = first_of (judge_checks r t m) (answer_of (verdict_of t m))

unfoldable pub judge_plan : List ℕ → List ℕ → Answer
judge_plan t m = judge_by plain_rules t m

-- a planner is lent marks and scratch
pub record PlanBuffers : Type 0 where
  pub marks : List ℕ
  pub scratch : List ℕ

abbrev pub plan_left : {Told : Type 0} → Told → List ℕ → List ℕ → Outcome Told PlanBuffers
plan_left r m s = outcome r (record { marks = m; scratch = s })

-- it leaves the plan that its steps make, with the judge's verdict, and cleared scratch
unfoldable pub planned : (ℕ → Chain → List ℕ) → List ℕ → List ℕ → List ℕ → Outcome Answer PlanBuffers
planned steps t m s =
    let made : List ℕ = steps (limit_of t) (tree_of t) in
    checked (plan_checks t m s) (answer_of (verdict_of t made)) (record { marks = made; scratch = replicate (length s) 0 })
    (record { marks = m; scratch = s })

abbrev pub plan_best : List ℕ → List ℕ → List ℕ → Outcome Answer PlanBuffers
plan_best = planned best_marks

abbrev pub plan_level : List ℕ → List ℕ → List ℕ → Outcome Answer PlanBuffers
plan_level = planned level_marks

abbrev pub plan_single : List ℕ → List ℕ → List ℕ → Outcome Answer PlanBuffers
plan_single = planned single_marks

abbrev pub plan_pair : List ℕ → List ℕ → List ℕ → Outcome Answer PlanBuffers
plan_pair = planned pair_marks

abbrev pub plan_rightmost : List ℕ → List ℕ → List ℕ → Outcome Answer PlanBuffers
plan_rightmost = planned rightmost_marks

abbrev pub plan_depth_first : List ℕ → List ℕ → List ℕ → Outcome Answer PlanBuffers
plan_depth_first = planned depth_first_marks

-- an entry that writes is lent its output
abbrev pub Written : Type 0
Written = Outcome Answer (List ℕ)

-- the writer of an edition under rules
abbrev pub write_by : Rules → Edition → List ℕ → List ℕ → List ℕ → Written
write_by r e t m out = checked (write_checks r e t m out) (answer_of (verdict_of t m)) (archive_of e t m) out

-- the archive writer
unfoldable pub write_archive : Edition → List ℕ → List ℕ → List ℕ → Written
write_archive e t m out = write_by (writer_rules e) e t m out

-- the writer that an archive which is read is held against: the archive writer where the edition is filed, and else
-- without 14, which is no entry
unfoldable pub write_film : Edition → List ℕ → List ℕ → List ℕ → Written
write_film e t m out = write_by (film_rules e) e t m out

-- that writer writes this archive from the tree and the plan that it tells, within the edition's most nodes
unfoldable pub is_archive : Edition → List ℕ → Bool
is_archive e a =
    leb (nodes_in e a) e.most
    && (feasible_film e (table_in e a) (marks_in e a) && same_list (archive_of e (table_in e a) (marks_in e a)) a)

-- the archive reader is lent a table and marks, and checks 13, then 12, then 8
pub record ReadBuffers : Type 0 where
  pub table : List ℕ
  pub marks : List ℕ

abbrev pub read_left : {Told : Type 0} → Told → List ℕ → List ℕ → Outcome Told ReadBuffers
read_left r t m = outcome r (record { table = t; marks = m })

unfoldable pub read_checks : Edition → List ℕ → List ℕ → List ℕ → List Check
read_checks e a t m = no_archive (is_archive e a) ∷ back_checks (nodes_in e a) t m

unfoldable pub read_archive : Edition → List ℕ → List ℕ → List ℕ → Outcome Answer ReadBuffers
read_archive e a t m =
    checked (read_checks e a t m) (answer_of (verdict_of (table_in e a) (marks_in e a)))
    (record { table = table_in e a; marks = marks_in e a }) (record { table = t; marks = m })

-- A converter, from film of edition e to film of edition f: it checks 13, then 14, then 15 and 12, and writes the tree
-- and the plan that the archive tells.
unfoldable pub convert_checks : Edition → Edition → List ℕ → List ℕ → List Check
convert_checks e f a out =
    no_archive (is_archive e a) ∷ no_label (table_in e a) ∷ film_checks f (table_in e a) (marks_in e a) out

unfoldable pub convert_archive : Edition → Edition → List ℕ → List ℕ → Written
convert_archive e f a out =
    checked (convert_checks e f a out) (answer_of (verdict_of (table_in e a) (marks_in e a)))
    (archive_of f (table_in e a) (marks_in e a)) out

-- the printer of leader sheets
unfoldable pub print_sheets : List ℕ → List ℕ → List ℕ → Written
print_sheets t m out = checked (print_checks t m out) (answer_of (verdict_of t m)) (sheets_of t m) out

-- what a priced plan tells: the answer, and the cents, 0 on refusal
abbrev pub price_told : Result Price Refusal → Outcome Answer ℕ
price_told (Ok p) = outcome (answer_of (Feasible p.plan.pages p.plan.root)) p.cents
price_told (Err r) = outcome (refusal_answer r) 0

-- the price of a plan: the judge's answer with the total in cents, 0 on refusal
unfoldable pub price_plan : List ℕ → List ℕ → Outcome Answer ℕ
price_plan t m = checked (judge_checks plain_rules t m) (answer_of (verdict_of t m)) (total_cents t m) 0

-- the saving: all that the best planner gives and leaves, with the saving in cents, 0 on refusal
pub record SavingLeft : Type 0 where
  pub best : PlanBuffers
  pub saving : ℤ

abbrev pub saved : {Told : Type 0} → Outcome Told PlanBuffers → ℤ → Outcome Told SavingLeft
saved p z = outcome p.answer (record { best = p.left; saving = z })

-- what a saving tells, with the marks and the scratch that it leaves: no cents on refusal
abbrev pub saving_told : Result Saving Refusal → List ℕ → List ℕ → Outcome Answer SavingLeft
saving_told (Ok z) m s = saved (plan_left (answer_of (Feasible z.plan.pages z.plan.root)) m s) z.saving
saving_told (Err r) m s = saved (plan_left (refusal_answer r) m s) (pos 0)

unfoldable pub save_best : List ℕ → List ℕ → List ℕ → Outcome Answer SavingLeft
save_best t m s = saved (plan_best t m s) (pick (passes (plan_checks t m s)) (saving_of t) (pos 0))

-- the entry that puts a leaf of weight w and label l in below node v
unfoldable pub add_leaf : List ℕ → ℕ → ℕ → ℕ → List ℕ → Written
add_leaf t v w l out = checked (add_checks t v w l out) accepted (leaf_table t v w l) out
