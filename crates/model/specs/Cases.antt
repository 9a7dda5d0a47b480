-- Document 01, 'Trees on both sides' and the examples of 'What is refused', computed from the definitions: one result
-- for the starred cases and one for the refusals; one for the quick planners, one for what planners leave on refusal,
-- one for film read back, one for trees with unfiled lots, two for notes that weigh nothing, one for the limits of
-- nodes, one for edition 2, one for readers that refuse, one for film that is none, one for film that is converted,
-- one for verdicts, three for leader sheets, two for prices, one for sequences of runs, one for what promises read off
-- film, and one for late leaves.
-- Assumes nothing.
use Rattle.std.specs.Prelude.{◌≡◌, refl, ℕ, ◌+◌, ◌-◌, ◌*◌, ◌/◌, Bool, true, false, not, ◌&&◌, List, [], ◌∷◌, ◌++◌, length, replicate, get_or, set, take, drop, ℤ, pos, negsuc, eqb, ltb}
use Rattle.model.specs.Basics as Basics
use Rattle.model.specs.Table as Table
use Rattle.model.specs.Leaf as Leaf
use Rattle.model.specs.Plan as Plan
use Rattle.model.specs.Runs as Runs
use Rattle.model.specs.Steps as Steps
use Rattle.model.specs.Archive as Archive
use Rattle.model.specs.Decimal as Decimal
use Rattle.model.specs.Sheets as Sheets
use Rattle.model.specs.Prices as Prices
use Rattle.model.specs.Refusals as Refusals
use Rattle.model.specs.Basics.{pick, list_to, every, same_list}
use Rattle.model.specs.Table.{bytes_of, node_count, limit_of}
use Rattle.model.specs.Leaf.{leaf_number, raised, leaf_table}
use Rattle.model.specs.Plan.{parent_at, verdict_of}
use Rattle.model.specs.Runs.{Run, count_of, same_run, holds, within_limit, runs_of, run_count, root_weight}
use Rattle.model.specs.Steps.{Child, stops_at}
use Rattle.model.specs.Archive.{first_edition, second_edition, archive_of}
use Rattle.model.specs.Decimal.{bytes}
use Rattle.model.specs.Sheets.{sheet_count, line_with, PageFigures, per_cent, line_at, sheets_by, number_in}
use Rattle.model.specs.Sheets.{sheet_number, line_number}
use Rattle.model.specs.Prices.{fill_of, price_at}
use Rattle.model.specs.Refusals.{refused_for_weight, read_tree, judge_plan, plan_best, plan_level, plan_single}
use Rattle.model.specs.Refusals.{plan_pair, write_archive, write_film, Written, read_archive, scratch_words}
use Rattle.model.specs.Refusals.{Outcome, outcome, PlanBuffers, plan_rightmost, plan_depth_first, print_sheets}
use Rattle.model.specs.Refusals.{many_nodes, first_of, accepted, convert_archive, price_plan, SavingLeft, save_best}
use Rattle.model.specs.Refusals.{no_parent, add_leaf}
use Rattle.model.specs.Demand.{runs_in, root_in}
use Rattle.model.specs.declared.Cause.TheVariants.{BadMark, HeavyPage}
use Rattle.std.specs.declared.option.Option.{Option}
use Rattle.std.specs.declared.option.Option.TheVariants.{Some, None}
use Rattle.model.specs.declared.Verdict.{Verdict}
use Rattle.model.specs.declared.Verdict.TheVariants.{Feasible, Failed}
use Rattle.model.specs.Refusals.{Answer}
use Rattle.model.specs.declared.Edition.{Edition}

-- ---- The trees, as tables; labels are node numbers

-- one node 1, limit K: A for 1
abbrev tree_one : ℕ → List ℕ
tree_one K = bytes_of (1 ∷ K ∷ 1 ∷ 1 ∷ 0 ∷ 0 ∷ [])

abbrev tree_a : List ℕ
tree_a = tree_one 1

abbrev tree_b : List ℕ
tree_b = bytes_of (1 ∷ 3 ∷ 4 ∷ 1 ∷ 0 ∷ 0 ∷ [])

-- root 2, children 1 1 1, limit K: C for 5 and D for 4; in 3 a run of all children just fits
abbrev tree_cd : ℕ → List ℕ
tree_cd K = bytes_of (4 ∷ K ∷ 2 ∷ 1 ∷ 2 ∷ 0 ∷ 1 ∷ 2 ∷ 0 ∷ 3 ∷ 1 ∷ 3 ∷ 0 ∷ 4 ∷ 1 ∷ 4 ∷ 0 ∷ 0 ∷ [])

-- root 5; children 2, 1, 1; the middle one has children 2, 2. In E itself the limit is 5 and node 3 weighs 1
abbrev tree_e : ℕ → ℕ → List ℕ
tree_e K three =
    bytes_of (6 ∷ K ∷ 5 ∷ 1 ∷ 2 ∷ 0 ∷ 2 ∷ 2 ∷ 0 ∷ 3 ∷ three ∷ 3 ∷ 4 ∷ 6 ∷ 2 ∷ 4 ∷ 0 ∷ 5 ∷ 2 ∷ 5 ∷ 0 ∷ 0 ∷ 1 ∷ 6 ∷ 0 ∷ 0
    ∷ [])

-- root 1, children 3, 3, K 4
abbrev tree_f : List ℕ
tree_f = bytes_of (3 ∷ 4 ∷ 1 ∷ 1 ∷ 2 ∷ 0 ∷ 3 ∷ 2 ∷ 0 ∷ 3 ∷ 3 ∷ 3 ∷ 0 ∷ 0 ∷ [])

-- root 1; children 2, 2, 2; the first has a child 3; K 5
abbrev tree_g : List ℕ
tree_g = bytes_of (5 ∷ 5 ∷ 1 ∷ 1 ∷ 2 ∷ 0 ∷ 2 ∷ 2 ∷ 3 ∷ 4 ∷ 3 ∷ 3 ∷ 0 ∷ 0 ∷ 2 ∷ 4 ∷ 0 ∷ 5 ∷ 2 ∷ 5 ∷ 0 ∷ 0 ∷ [])

-- root r, children a, b, c, limit K
abbrev tree_w : ℕ → ℕ → ℕ → ℕ → ℕ → List ℕ
tree_w K r a b c = bytes_of (4 ∷ K ∷ r ∷ 1 ∷ 2 ∷ 0 ∷ a ∷ 2 ∷ 0 ∷ 3 ∷ b ∷ 3 ∷ 0 ∷ 4 ∷ c ∷ 4 ∷ 0 ∷ 0 ∷ [])

-- Root r, limit K, and seven nodes of 1: node 2 has a subtree four deep, the nodes 2, 3, 4 and 5. Node 6 comes after 5,
-- node 7 after 3, and node 8, with the root for its parent, after 2.
abbrev tree_deep : ℕ → ℕ → List ℕ
tree_deep K r =
    bytes_of (8 ∷ K ∷ r ∷ 1 ∷ 2 ∷ 0 ∷ 1 ∷ 2 ∷ 3 ∷ 8 ∷ 1 ∷ 3 ∷ 4 ∷ 7 ∷ 1 ∷ 4 ∷ 5 ∷ 0 ∷ 1 ∷ 5 ∷ 0 ∷ 6 ∷ 1 ∷ 6 ∷ 0 ∷ 0
    ∷ 1 ∷ 7 ∷ 0 ∷ 0 ∷ 1 ∷ 8 ∷ 0 ∷ 0 ∷ [])

-- ---- The starred cases

-- a test, with every definition open, so that it computes; a new definition joins here by its name
pub computed : Bool → Bool
unfolding Basics.pick Basics.when Basics.at_place Basics.sum_to Basics.count_to Basics.first_to Basics.last_to
    Basics.list_to Basics.every Basics.same_list
    Table.word_at Table.bytes_of Table.field_at Table.walk_from Table.walk_place Table.chain_from Table.tree_of
    Table.size Table.link_to Table.records Table.encoded
    Leaf.followed_by Leaf.with_leaf Leaf.leaf_number Leaf.raised Leaf.leaf_table
    Plan.prev_at Plan.owner_at Plan.parent_from Plan.parent_at Plan.mark_at Plan.in_run Plan.good_mark Plan.page_from
    Plan.page_of Plan.page_count Plan.page_weight Plan.page_nodes Plan.bad_mark Plan.heavy_page Plan.verdict_of
    Plan.run_last_from Plan.run_last
    Runs.comes_from Runs.comes_after Runs.is_run Runs.is_member Runs.count_of Runs.same_run Runs.holds Runs.run_with
    Runs.home_from Runs.home_of Runs.run_weight Runs.within_limit Runs.runs_of Runs.page_run
    Steps.rest_sum Steps.gain_sum Steps.taken_count Steps.largest_gain Steps.take_earliest Steps.reduce_from Steps.reduce
    Steps.better Steps.least_of Steps.winner Steps.staying Steps.as_member Steps.run_choices Steps.running Steps.run_of
    Steps.lightest Steps.stops_at Steps.second_start Steps.gain_of Steps.child_of Steps.siblings_by Steps.children_of
    Steps.choices_of Steps.lay_down Steps.best_marks Steps.level_marks Steps.whole Steps.cut_down Steps.remainders
    Steps.single_marks Steps.sides Steps.remainder Steps.taken_at Steps.lay_pair Steps.pair_marks
    Steps.entry_at Steps.stretched
    Steps.total Steps.while_over Steps.cut_runs Steps.run_left Steps.stayed Steps.right_rest Steps.right_rests
    Steps.rightmost_marks Steps.joins Steps.page_mark Steps.page_with Steps.page_after Steps.lay_depth_first
    Steps.depth_first_marks
    Archive.head_words Archive.next_page Archive.page_record Archive.next_on_page Archive.node_record Archive.archive_of
    Archive.nodes_in Archive.limit_in Archive.pages_in Archive.page_field_in Archive.node_field_in Archive.parent_in
    Archive.first_in Archive.next_in Archive.table_in Archive.begins_in Archive.continues_in Archive.mark_in Archive.marks_in
    Decimal.decimal_to Sheets.field Sheets.line_with Sheets.first_line Sheets.last_line Sheets.line_for_page Sheets.line_at
    Sheets.sheet_at Sheets.sheets_by Sheets.sheets_of Sheets.value_from Sheets.number_in
    Prices.total_cents Prices.saving_of
    Refusals.short_table Refusals.bad_count Refusals.bad_limit Refusals.bad_length Refusals.bad_walk
    Refusals.heavy_node Refusals.bad_marks Refusals.short_scratch Refusals.mark_refused Refusals.page_refused
    Refusals.bad_output Refusals.no_archive Refusals.no_label Refusals.many_nodes Refusals.head_checks Refusals.node_checks
    Refusals.weight_checks Refusals.lent_checks Refusals.found_checks Refusals.mark_checks Refusals.film_checks
    Refusals.sheet_checks Refusals.back_checks
    Refusals.form_checks Refusals.tree_checks Refusals.plan_checks Refusals.judge_checks Refusals.write_checks
    Refusals.print_checks
    Refusals.passes Refusals.asked Refusals.sound_form Refusals.accepted_tree Refusals.refused_for_weight
    Refusals.feasible_plan Refusals.feasible_film Refusals.first_of Refusals.read_tree Refusals.judge_plan
    Refusals.checked Refusals.planned Refusals.write_archive Refusals.write_film Refusals.is_archive
    Refusals.read_checks Refusals.read_archive Refusals.convert_checks Refusals.convert_archive Refusals.print_sheets
    Refusals.price_plan Refusals.save_best
    Refusals.no_parent Refusals.unfiled_leaf Refusals.heavy_leaf Refusals.parent_checks Refusals.leaf_checks
    Refusals.table_checks Refusals.add_checks Refusals.add_leaf
computed b = b

abbrev says_feasible : Option Verdict → ℕ → ℕ → Bool
says_feasible (Some (Feasible pages root)) p r = eqb pages p && eqb root r
says_feasible (Some (Failed c)) p r = eqb 0 1
says_feasible None p r = eqb 0 1

-- the answer is number n at place p
abbrev answers : Answer → ℕ → ℕ → Bool
answers a n p = eqb a.number n && eqb a.place p

-- A planner lent a table, marks and just enough scratch, with bytes of no meaning in both, leaves the marks m and
-- cleared scratch and accepts with p pages and root weight r; the runs of the marks hold the tree within the limit,
-- with the same figures.
pub plans : (List ℕ → List ℕ → List ℕ → Outcome Answer PlanBuffers) → List ℕ → List ℕ → ℕ → ℕ → Bool
plans planner t m p r =
    let words : ℕ = scratch_words (node_count t) (limit_of t) in
    let out : Outcome Answer PlanBuffers = planner t (replicate (node_count t) 9) (replicate words 7) in
    answers out.answer 0 0 && says_feasible out.answer.beside p r && same_list out.left.marks m
    && same_list out.left.scratch (replicate words 0)
    && holds t (runs_of t m) && within_limit t (runs_of t m) && eqb (run_count (runs_of t m)) p
    && eqb (root_weight t (runs_of t m)) r

pub starred : List Bool
starred =
    plans plan_best tree_a (1 ∷ []) 1 1
    ∷ answers (read_tree tree_b) 7 1
    ∷ refused_for_weight tree_b
    ∷ plans plan_best (tree_cd 5) (1 ∷ 0 ∷ 0 ∷ 0 ∷ []) 1 5
    ∷ plans plan_best (tree_cd 4) (1 ∷ 1 ∷ 2 ∷ 2 ∷ []) 2 2
    ∷ plans plan_best (tree_e 5 1) (1 ∷ 1 ∷ 2 ∷ 1 ∷ 2 ∷ 2 ∷ []) 3 5
    ∷ plans plan_level (tree_e 5 1) (1 ∷ 1 ∷ 1 ∷ 0 ∷ 0 ∷ 1 ∷ []) 4 5
    ∷ plans plan_single (tree_e 5 1) (1 ∷ 1 ∷ 1 ∷ 0 ∷ 0 ∷ 1 ∷ []) 4 5
    ∷ plans plan_pair (tree_e 5 1) (1 ∷ 1 ∷ 2 ∷ 1 ∷ 2 ∷ 2 ∷ []) 3 5
    ∷ plans plan_best tree_f (1 ∷ 1 ∷ 0 ∷ []) 2 4
    ∷ plans plan_best tree_g (1 ∷ 1 ∷ 0 ∷ 0 ∷ 0 ∷ []) 2 5
    ∷ plans plan_pair tree_g (1 ∷ 1 ∷ 0 ∷ 1 ∷ 2 ∷ []) 3 1
    ∷ []

pub starred_hold : every computed starred ≡ true
unfolding computed starred plans
starred_hold = refl

-- ---- The quick planners, on the same trees

-- Then rightmost with two runs at one node, where the second starts anew and takes a neighbour; and depth-first after a
-- deep subtree, where node 8 joins its parent, joins node 2, finds no room, and finds node 2 on an earlier page.
pub quick : List Bool
quick =
    plans plan_rightmost tree_a (1 ∷ []) 1 1
    ∷ plans plan_depth_first tree_a (1 ∷ []) 1 1
    ∷ plans plan_rightmost (tree_cd 5) (1 ∷ 0 ∷ 0 ∷ 0 ∷ []) 1 5
    ∷ plans plan_depth_first (tree_cd 5) (1 ∷ 0 ∷ 0 ∷ 0 ∷ []) 1 5
    ∷ plans plan_rightmost (tree_cd 4) (1 ∷ 1 ∷ 2 ∷ 2 ∷ []) 2 2
    ∷ plans plan_depth_first (tree_cd 4) (1 ∷ 0 ∷ 0 ∷ 1 ∷ []) 2 4
    ∷ plans plan_rightmost (tree_cd 3) (1 ∷ 1 ∷ 2 ∷ 2 ∷ []) 2 2
    ∷ plans plan_depth_first (tree_cd 3) (1 ∷ 0 ∷ 1 ∷ 2 ∷ []) 2 3
    ∷ plans plan_rightmost (tree_e 5 1) (1 ∷ 1 ∷ 1 ∷ 0 ∷ 0 ∷ 1 ∷ []) 4 5
    ∷ plans plan_depth_first (tree_e 5 1) (1 ∷ 1 ∷ 2 ∷ 0 ∷ 1 ∷ 1 ∷ []) 4 5
    ∷ plans plan_rightmost tree_f (1 ∷ 0 ∷ 1 ∷ []) 2 4
    ∷ plans plan_depth_first tree_f (1 ∷ 0 ∷ 1 ∷ []) 2 4
    ∷ plans plan_rightmost tree_g (1 ∷ 1 ∷ 0 ∷ 1 ∷ 2 ∷ []) 3 1
    ∷ plans plan_depth_first tree_g (1 ∷ 0 ∷ 1 ∷ 1 ∷ 2 ∷ []) 3 3
    ∷ plans plan_rightmost (tree_w 2 2 1 1 2) (1 ∷ 1 ∷ 2 ∷ 1 ∷ []) 3 2
    ∷ plans plan_depth_first (tree_deep 8 1) (1 ∷ 0 ∷ 0 ∷ 0 ∷ 0 ∷ 0 ∷ 0 ∷ 0 ∷ []) 1 8
    ∷ plans plan_depth_first (tree_deep 7 7) (1 ∷ 1 ∷ 0 ∷ 0 ∷ 0 ∷ 0 ∷ 0 ∷ 2 ∷ []) 2 7
    ∷ plans plan_depth_first (tree_deep 6 6) (1 ∷ 1 ∷ 0 ∷ 0 ∷ 0 ∷ 0 ∷ 0 ∷ 1 ∷ []) 3 6
    ∷ plans plan_depth_first (tree_deep 5 5) (1 ∷ 1 ∷ 0 ∷ 0 ∷ 0 ∷ 0 ∷ 1 ∷ 1 ∷ []) 4 5
    ∷ []

pub quick_hold : every computed quick ≡ true
unfolding computed quick plans
quick_hold = refl

-- ---- The examples of the list of refusals, in its order

-- the answer and a buffer that keeps its bytes
abbrev keeps : Answer → List ℕ → List ℕ → ℕ → ℕ → Bool
keeps a left lent n p = answers a n p && same_list left lent

-- the writer accepts and leaves these bytes
abbrev leaves : Written → List ℕ → Bool
leaves w a = keeps w.answer w.left a 0 0

abbrev best_e : List ℕ
best_e = 1 ∷ 1 ∷ 2 ∷ 1 ∷ 2 ∷ 2 ∷ []

pub refusals : List Bool
refusals =
    answers (read_tree (0 ∷ 1 ∷ [])) 1 0
    ∷ answers (read_tree (0 ∷ 0 ∷ 0 ∷ 5 ∷ [])) 2 0
    ∷ answers (read_tree (0 ∷ 1 ∷ 0 ∷ 0 ∷ [])) 3 0
    ∷ answers (read_tree (tree_one 1024)) 0 0
    ∷ answers (read_tree (tree_one 1025)) 3 1025
    ∷ answers (read_tree (0 ∷ 1 ∷ 0 ∷ 5 ∷ 0 ∷ [])) 4 12
    ∷ answers (read_tree (tree_e 5 0)) 0 0
    ∷ answers (read_tree (0 ∷ 1 ∷ 0 ∷ 5 ∷ 0 ∷ 1 ∷ 0 ∷ 1 ∷ 0 ∷ 5 ∷ 0 ∷ 0 ∷ [])) 6 1
    ∷ answers (read_tree (tree_e 4 1)) 7 1
    ∷ answers (judge_plan (tree_e 5 1) (replicate 5 0)) 8 6
    ∷ answers (plan_best (tree_e 5 1) best_e (replicate 191 7)).answer 9 192
    ∷ answers (plan_best (tree_e 5 1) best_e (replicate 192 7)).answer 0 0
    ∷ answers (judge_plan (tree_e 5 1) (1 ∷ 2 ∷ 0 ∷ 0 ∷ 0 ∷ 0 ∷ [])) 10 2
    ∷ answers (judge_plan (tree_e 5 1) (1 ∷ 0 ∷ 0 ∷ 0 ∷ 0 ∷ 0 ∷ [])) 11 1
    ∷ answers (write_archive first_edition (tree_e 5 1) best_e (replicate 77 7)).answer 12 78
    ∷ leaves (write_archive first_edition (tree_e 5 1) best_e (replicate 78 7)) (archive_of first_edition (tree_e 5 1) best_e)
    ∷ answers (read_archive first_edition [] [] []).answer 13 0
    ∷ []

pub refusals_hold : every computed refusals ≡ true
unfolding computed refusals
refusals_hold = refl

-- E's best plan, written and read back into buffers of the right lengths: the very tree and plan
pub back : List Bool
back =
    let r = read_archive first_edition (archive_of first_edition (tree_e 5 1) best_e) (replicate 52 7) (replicate 6 7) in
    keeps r.answer r.left.table (tree_e 5 1) 0 0 ∷ keeps r.answer r.left.marks best_e 0 0 ∷ []

pub back_hold : every computed back ≡ true
unfolding computed back
back_hold = refl

-- ---- What planners leave on refusal

abbrev planners : List (List ℕ → List ℕ → List ℕ → Outcome Answer PlanBuffers)
planners = plan_best ∷ plan_level ∷ plan_single ∷ plan_pair ∷ plan_rightmost ∷ plan_depth_first ∷ []

-- lent so many marks and words of scratch, of no meaning, the planner refuses with n at p and leaves both as they were
abbrev spares : List ℕ → ℕ → ℕ → ℕ → ℕ → (List ℕ → List ℕ → List ℕ → Outcome Answer PlanBuffers) → Bool
spares t marks words n p planner =
    let out : Outcome Answer PlanBuffers = planner t (replicate marks 9) (replicate words 7) in
    keeps out.answer out.left.marks (replicate marks 9) n p && same_list out.left.scratch (replicate words 7)

-- all six: for a tree's refusal, for 8 and 9, and 8 before 9; and of scratch that is more than enough all is cleared
pub spared : List Bool
spared =
    every (spares (tree_e 4 1) 6 192 7 1) planners
    ∷ every (spares (tree_e 5 1) 5 192 8 6) planners
    ∷ every (spares (tree_e 5 1) 6 191 9 192) planners
    ∷ every (spares (tree_e 5 1) 7 191 8 6) planners
    ∷ same_list (plan_best tree_a (9 ∷ []) (replicate 20 7)).left.scratch (replicate 20 0)
    ∷ []

pub spared_hold : every computed spared ≡ true
unfolding computed spared
spared_hold = refl

-- ---- Longer shifts

-- an edition that takes five nodes, and one that takes two; E has six
abbrev of_five : Edition
of_five = record { head = 3; page = 4; most = 5; filed = false }

abbrev of_two : Edition
of_two = record { head = 3; page = 4; most = 2; filed = false }

-- the limits, by words of N, and the highest place; that 15 is given after 11 and before 12; and at N, also where that
-- is far above the edition's limit
pub longer : List Bool
longer =
    let lent : List ℕ = replicate 78 7 in
    let w = write_archive of_five (tree_e 5 1) best_e lent in
    let film : List ℕ = archive_of of_five (tree_e 5 1) best_e in
    answers (read_tree (8 ∷ 0 ∷ 0 ∷ 0 ∷ [])) 3 0
    ∷ answers (read_tree (8 ∷ 1 ∷ 0 ∷ 0 ∷ [])) 2 2049
    ∷ eqb (scratch_words 2048 1024) 8413184
    ∷ answers (first_of (many_nodes first_edition (4 ∷ 0 ∷ []) ∷ []) accepted) 0 0
    ∷ answers (first_of (many_nodes first_edition (4 ∷ 1 ∷ []) ∷ []) accepted) 15 1025
    ∷ answers (first_of (many_nodes first_edition (8 ∷ 0 ∷ []) ∷ []) accepted) 15 2048
    ∷ answers (write_archive of_five (tree_e 5 1) (replicate 5 0) []).answer 8 6
    ∷ answers (write_archive of_five (tree_e 5 1) (1 ∷ 2 ∷ 0 ∷ 0 ∷ 0 ∷ 0 ∷ []) []).answer 10 2
    ∷ answers (write_archive of_five (tree_e 5 1) (1 ∷ 0 ∷ 0 ∷ 0 ∷ 0 ∷ 0 ∷ []) []).answer 11 1
    ∷ answers (write_archive of_five (tree_e 5 1) best_e []).answer 15 6
    ∷ keeps w.answer w.left lent 15 6
    ∷ answers (write_archive of_two (tree_e 5 1) (1 ∷ 1 ∷ 1 ∷ 0 ∷ 0 ∷ 1 ∷ []) []).answer 15 6
    ∷ answers (read_archive of_five film (replicate 52 7) (replicate 6 7)).answer 13 0
    ∷ []

pub longer_hold : every computed longer ≡ true
unfolding computed longer
longer_hold = refl

-- ---- Unfiled lots: F with labels 0 at the nodes 2 and 3, of which node 3 weighs 3 in F itself

abbrev unfiled_f : ℕ → List ℕ
unfiled_f three = bytes_of (3 ∷ 4 ∷ 1 ∷ 1 ∷ 2 ∷ 0 ∷ 3 ∷ 0 ∷ 0 ∷ 3 ∷ three ∷ 0 ∷ 0 ∷ 0 ∷ [])

abbrev best_f : List ℕ
best_f = 1 ∷ 1 ∷ 0 ∷ []

-- before 6 and 7; no entry but the first edition's reader takes such a tree, and only the writer without 14 writes it
pub unfiled : List Bool
unfiled =
    let lent : List ℕ = replicate 46 7 in
    let film : List ℕ = archive_of first_edition (unfiled_f 3) best_f in
    let w = write_archive first_edition (unfiled_f 3) best_f lent in
    let r = read_archive first_edition film (replicate 28 7) (replicate 3 7) in
    answers (read_tree (unfiled_f 3)) 14 2
    ∷ answers (read_tree (unfiled_f 0)) 14 2
    ∷ answers (read_tree (0 ∷ 1 ∷ 0 ∷ 5 ∷ 0 ∷ 1 ∷ 0 ∷ 0 ∷ 0 ∷ 5 ∷ 0 ∷ 0 ∷ [])) 14 1
    ∷ answers (read_tree (unfiled_f 5)) 14 2
    ∷ not (refused_for_weight (unfiled_f 5))
    ∷ answers (plan_best (unfiled_f 3) best_f (replicate 84 7)).answer 14 2
    ∷ answers (judge_plan (unfiled_f 3) best_f) 14 2
    ∷ keeps w.answer w.left lent 14 2
    ∷ leaves (write_film first_edition (unfiled_f 3) best_f lent) film
    ∷ says_feasible r.answer.beside 2 4
    ∷ keeps r.answer r.left.table (unfiled_f 3) 0 0
    ∷ keeps r.answer r.left.marks best_f 0 0
    ∷ []

pub unfiled_hold : every computed unfiled ≡ true
unfolding computed unfiled
unfiled_hold = refl

-- ---- Edition 2, and film that is converted

-- E's best plan in edition 2: 8,194, N, K and P; three pages, of 1, 3 and 2 nodes; six nodes
abbrev second_e : List ℕ
second_e =
    bytes_of (8194 ∷ 6 ∷ 5 ∷ 3
    ∷ 1 ∷ 1 ∷ 5 ∷ 2 ∷ 1 ∷ 2 ∷ 6 ∷ 4 ∷ 3 ∷ 3 ∷ 4 ∷ 5 ∷ 4 ∷ 0 ∷ 2
    ∷ 5 ∷ 1 ∷ 0 ∷ 0 ∷ 2 ∷ 2 ∷ 1 ∷ 3 ∷ 1 ∷ 3 ∷ 1 ∷ 6 ∷ 2 ∷ 4 ∷ 3 ∷ 5 ∷ 2 ∷ 5 ∷ 3 ∷ 0 ∷ 1 ∷ 6 ∷ 1 ∷ 0 ∷ [])

abbrev first_e : List ℕ
first_e = archive_of first_edition (tree_e 5 1) best_e

-- written and read; 14 and 13 for a label 0; each edition is 13 to the other
pub editions : List Bool
editions =
    let lent : List ℕ = replicate 85 7 in
    let w = write_archive second_edition (tree_e 5 1) best_e lent in
    let r = read_archive second_edition second_e (replicate 52 7) (replicate 6 7) in
    leaves (write_archive second_edition (tree_e 5 1) best_e (replicate 86 7)) second_e
    ∷ same_list (archive_of second_edition (tree_cd 5) (1 ∷ 0 ∷ 0 ∷ 0 ∷ []))
    (bytes_of (8194 ∷ 4 ∷ 5 ∷ 1 ∷ 1 ∷ 1 ∷ 5 ∷ 0 ∷ 4
    ∷ 2 ∷ 1 ∷ 0 ∷ 2 ∷ 1 ∷ 2 ∷ 1 ∷ 3 ∷ 1 ∷ 3 ∷ 1 ∷ 4 ∷ 1 ∷ 4 ∷ 1 ∷ 0 ∷ []))
    ∷ keeps w.answer w.left lent 12 86
    ∷ answers (write_archive second_edition (unfiled_f 3) best_f []).answer 14 2
    ∷ answers (first_of (many_nodes second_edition (8 ∷ 0 ∷ []) ∷ []) accepted) 0 0
    ∷ answers (first_of (many_nodes second_edition (8 ∷ 1 ∷ []) ∷ []) accepted) 15 2049
    ∷ keeps r.answer r.left.table (tree_e 5 1) 0 0
    ∷ keeps r.answer r.left.marks best_e 0 0
    ∷ answers (read_archive first_edition second_e [] []).answer 13 0
    ∷ answers (read_archive second_edition first_e [] []).answer 13 0
    ∷ answers (read_archive second_edition (archive_of second_edition (unfiled_f 3) best_f) [] []).answer 13 0
    ∷ []

pub editions_hold : every computed editions ≡ true
unfolding computed editions
editions_hold = refl

abbrev both : List Edition
both = first_edition ∷ second_edition ∷ []

-- lent a table of so many bytes and so many marks, of no meaning, the edition's reader refuses F's film, with `more` at
-- its end, with n at p, and leaves both as they were
abbrev unread : List ℕ → ℕ → ℕ → ℕ → ℕ → Edition → Bool
unread more table marks n p e =
    let r = read_archive e (archive_of e tree_f best_f ++ more) (replicate table 7) (replicate marks 9) in
    keeps r.answer r.left.table (replicate table 7) n p && same_list r.left.marks (replicate marks 9)

-- 12 and 8, for a buffer too short and too long; 12 before 8, and 13, here for a byte too many, before both
pub readers : List Bool
readers =
    every (unread [] 27 3 12 28) both
    ∷ every (unread [] 29 3 12 28) both
    ∷ every (unread [] 28 2 8 3) both
    ∷ every (unread [] 28 4 8 3) both
    ∷ every (unread [] 27 2 12 28) both
    ∷ every (unread (0 ∷ []) 27 2 13 0) both
    ∷ every (unread (0 ∷ []) 28 2 13 0) both
    ∷ every (unread (0 ∷ []) 28 3 13 0) both
    ∷ []

pub readers_hold : every computed readers ≡ true
unfolding computed readers
readers_hold = refl

-- film whose byte i, from 0, is one more
abbrev one_more : List ℕ → ℕ → List ℕ
one_more film i = set film i (get_or film i 0 + 1)

-- the words of film, from 1, whose low byte can be one more with no 13
abbrev free_words : Edition → List ℕ → List ℕ
free_words e film =
    list_to (length film / 2)
    (λ w. pick (answers (read_archive e (one_more film (2 * w - 1)) [] []).answer 13 0) [] (w ∷ []))

-- Film is 13 with one byte that is not what is written again. In F's only K and the three labels can be one more: not
-- N, P or the edition's word; not a page's first node, last sibling, weight, next page or number of nodes; not a node's
-- weight, parent or next on its page. Then a high byte, of the weight of E's page 2; a byte too few; and a heavy page.
pub damaged : List Bool
damaged =
    same_list (free_words first_edition (archive_of first_edition tree_f best_f)) (2 ∷ 13 ∷ 17 ∷ 21 ∷ [])
    ∷ same_list (free_words second_edition (archive_of second_edition tree_f best_f)) (3 ∷ 16 ∷ 20 ∷ 24 ∷ [])
    ∷ answers (read_archive first_edition (one_more first_e 18) [] []).answer 13 0
    ∷ answers (read_archive first_edition (take 77 first_e) [] []).answer 13 0
    ∷ answers (read_archive first_edition (archive_of first_edition tree_f (1 ∷ 0 ∷ 0 ∷ [])) [] []).answer 13 0
    ∷ []

pub damaged_hold : every computed damaged ≡ true
unfolding computed damaged
damaged_hold = refl

-- 13, then 14 or 15, then 12; with the plan that the film has, though it is not the best; there and back
pub conversions : List Bool
conversions =
    let unfiled : List ℕ = archive_of first_edition (unfiled_f 3) best_f in
    let other : List ℕ = 1 ∷ 0 ∷ 1 ∷ [] in
    let lent : List ℕ = replicate 85 7 in
    let short = convert_archive first_edition second_edition first_e lent in
    let there = convert_archive first_edition second_edition first_e (replicate 86 7) in
    let back = convert_archive second_edition first_edition second_e (replicate 78 7) in
    answers (convert_archive first_edition second_edition unfiled []).answer 14 2
    ∷ leaves (convert_archive first_edition second_edition (archive_of first_edition tree_f other) (replicate 52 7))
    (archive_of second_edition tree_f other)
    ∷ answers (convert_archive first_edition second_edition second_e []).answer 13 0
    ∷ answers (convert_archive second_edition first_edition first_e []).answer 13 0
    ∷ answers (convert_archive second_edition of_five second_e []).answer 15 6
    ∷ answers (convert_archive second_edition of_two second_e []).answer 15 6
    ∷ keeps short.answer short.left lent 12 86
    ∷ leaves there second_e
    ∷ says_feasible there.answer.beside 3 5
    ∷ leaves back first_e
    ∷ says_feasible back.answer.beside 3 5
    ∷ []

pub conversions_hold : every computed conversions ≡ true
unfolding computed conversions
conversions_hold = refl

-- ---- Verdicts

-- what stands beside an answer: pages and root weight, or a cause by its number and its node or page, or nothing
abbrev told : Option Verdict → List ℕ
told (Some (Feasible pages root)) = 0 ∷ pages ∷ root ∷ []
told (Some (Failed (BadMark v))) = 10 ∷ v ∷ []
told (Some (Failed (HeavyPage p))) = 11 ∷ p ∷ []
told None = []

-- the answer is number n at place p, with this beside it
abbrev says : Answer → ℕ → ℕ → List ℕ → Bool
says a n p beside = answers a n p && same_list (told a.beside) beside

-- Causes: of a 2 at node 3 after a sibling that stays, where the root page is heavy too; and of page 2, which begins at
-- node 3. Nothing with any other refusal, and with the tree reader's acceptance.
pub verdicts : List Bool
verdicts =
    let t : List ℕ = tree_w 2 1 1 2 1 in
    let bad : List ℕ = 1 ∷ 0 ∷ 2 ∷ 0 ∷ [] in
    let heavy : List ℕ = 1 ∷ 0 ∷ 1 ∷ 2 ∷ [] in
    let film : List ℕ = archive_of first_edition tree_f best_f in
    same_list (told (Some (verdict_of t bad))) (10 ∷ 3 ∷ [])
    ∷ same_list (told (Some (verdict_of t heavy))) (11 ∷ 2 ∷ [])
    ∷ says (judge_plan t bad) 10 3 (10 ∷ 3 ∷ [])
    ∷ says (judge_plan t heavy) 11 2 (11 ∷ 2 ∷ [])
    ∷ says (write_archive first_edition t bad []).answer 10 3 (10 ∷ 3 ∷ [])
    ∷ says (write_archive first_edition t heavy []).answer 11 2 (11 ∷ 2 ∷ [])
    ∷ says (read_tree (tree_e 5 1)) 0 0 []
    ∷ says (read_tree (tree_e 4 1)) 7 1 []
    ∷ says (judge_plan (tree_e 4 1) best_e) 7 1 []
    ∷ says (judge_plan (tree_e 5 1) []) 8 6 []
    ∷ says (plan_best (tree_e 4 1) [] []).answer 7 1 []
    ∷ says (plan_best (tree_e 5 1) [] []).answer 8 6 []
    ∷ says (plan_best (tree_e 5 1) best_e []).answer 9 192 []
    ∷ says (write_archive first_edition (tree_e 4 1) best_e []).answer 7 1 []
    ∷ says (write_archive first_edition (tree_e 5 1) [] []).answer 8 6 []
    ∷ says (write_archive first_edition (tree_e 5 1) best_e []).answer 12 78 []
    ∷ says (write_archive first_edition (unfiled_f 3) best_f []).answer 14 2 []
    ∷ says (write_archive of_two (tree_e 5 1) best_e []).answer 15 6 []
    ∷ says (read_archive first_edition [] [] []).answer 13 0 []
    ∷ says (read_archive first_edition film [] []).answer 12 28 []
    ∷ says (read_archive first_edition film (replicate 28 7) []).answer 8 3 []
    ∷ []

pub verdicts_hold : every computed verdicts ≡ true
unfolding computed verdicts
verdicts_hold = refl

-- ---- Notes that weigh nothing

-- all children in one run; in the limit 2 it has more nodes than K
abbrev one_run : List ℕ
one_run = 1 ∷ 1 ∷ 2 ∷ 2 ∷ []

abbrev child : ℕ → ℕ → Child
child rest gain = record { rest = rest; gain = gain }

-- the planners where the middle child weighs nothing, where the root does and where all do; the judge where the first
-- child does or the last; and film of such a tree
pub weightless : List Bool
weightless =
    let film : List ℕ = archive_of first_edition (tree_w 2 2 1 0 1) one_run in
    let r = read_archive first_edition film (replicate 36 7) (replicate 4 7) in
    plans plan_best (tree_w 2 2 1 0 1) one_run 2 2
    ∷ plans plan_level (tree_w 2 2 1 0 1) one_run 2 2
    ∷ plans plan_single (tree_w 2 2 1 0 1) (1 ∷ 1 ∷ 0 ∷ 1 ∷ []) 3 2
    ∷ plans plan_pair (tree_w 2 2 1 0 1) one_run 2 2
    ∷ plans plan_rightmost (tree_w 2 2 1 0 1) one_run 2 2
    ∷ plans plan_depth_first (tree_w 2 2 1 0 1) one_run 2 2
    ∷ plans plan_best (tree_w 2 0 1 1 1) (1 ∷ 1 ∷ 2 ∷ 0 ∷ []) 2 1
    ∷ plans plan_best (tree_w 1 0 0 0 0) (1 ∷ 0 ∷ 0 ∷ 0 ∷ []) 1 0
    ∷ plans plan_rightmost (tree_w 1 0 0 0 0) (1 ∷ 0 ∷ 0 ∷ 0 ∷ []) 1 0
    ∷ plans plan_depth_first (tree_w 1 0 0 0 0) (1 ∷ 0 ∷ 0 ∷ 0 ∷ []) 1 0
    ∷ says_feasible (judge_plan (tree_w 2 2 0 1 1) one_run).beside 2 2
    ∷ says_feasible (judge_plan (tree_w 2 2 1 1 0) one_run).beside 2 2
    ∷ says_feasible (judge_plan (tree_w 1 0 0 0 0) one_run).beside 2 0
    ∷ leaves (write_archive first_edition (tree_w 2 2 1 0 1) one_run (replicate 54 7)) film
    ∷ keeps r.answer r.left.table (tree_w 2 2 1 0 1) 0 0
    ∷ keeps r.answer r.left.marks one_run 0 0
    ∷ []

pub weightless_hold : every computed weightless ≡ true
unfolding computed weightless plans
weightless_hold = refl

-- where stretching stops in the limit 2: not on reaching it, but past it, by the rests less the gains
pub stops : List Bool
stops =
    not (stops_at 2 (child 1 0 ∷ child 1 0 ∷ []))
    ∷ stops_at 2 (child 2 0 ∷ child 1 0 ∷ [])
    ∷ not (stops_at 2 (child 2 1 ∷ child 1 0 ∷ []))
    ∷ []

pub stops_hold : every computed stops ≡ true
unfolding computed stops
stops_hold = refl

-- ---- Leader sheets

-- Lines of two sheets, of 59 pages: page p is node p by itself, of weight p less 1 in the limit 58. The page count is
-- the plan's on both, page 58 ends the first and page 59 begins the second, and a page line after the last is blank.
abbrev page_of59 : ℕ → PageFigures
page_of59 p = record { first = p; last = p; weight = p - 1 }

abbrev line_of59 : ℕ → ℕ → List ℕ
line_of59 s l = line_at 59 58 page_of59 s l

pub two_sheets : List Bool
two_sheets =
    same_list (line_of59 1 1) (line_with (bytes "PAGES     59"))
    ∷ same_list (line_of59 2 1) (line_with (bytes "PAGES     59"))
    ∷ same_list (line_of59 1 2) (line_with (bytes "     1     1     1     0   0"))
    ∷ same_list (line_of59 1 59) (line_with (bytes "    58    58    58    57  98"))
    ∷ same_list (line_of59 1 60) (line_with (bytes "     1"))
    ∷ same_list (line_of59 2 2) (line_with (bytes "    59    59    59    58 100"))
    ∷ same_list (line_of59 2 3) (line_with [])
    ∷ same_list (line_of59 2 60) (line_with (bytes "     2"))
    ∷ same_list (line_with []) (replicate 80 32 ++ 10 ∷ [])
    ∷ same_list (sheet_count 1 ∷ sheet_count 57 ∷ sheet_count 58 ∷ sheet_count 59 ∷ sheet_count 116 ∷ sheet_count 117 ∷ [])
    (1 ∷ 1 ∷ 1 ∷ 2 ∷ 2 ∷ 3 ∷ [])
    ∷ same_list (per_cent 2 3 ∷ per_cent 1023 1024 ∷ per_cent 1024 1024 ∷ per_cent 1 1024 ∷ []) (66 ∷ 99 ∷ 100 ∷ 0 ∷ [])
    ∷ []

pub two_sheets_hold : every computed two_sheets ≡ true
unfolding computed two_sheets
two_sheets_hold = refl

-- the second of these sheets
abbrev second59 : List ℕ
second59 =
    line_with (bytes "PAGES     59")
    ++ line_with (bytes "    59    59    59    58 100")
    ++ list_to 57 (λ p. line_with [])
    ++ line_with (bytes "     2")

-- whole; and read by its columns, after a sheet of no meaning: the page count, page 59's figures, the sheet's number;
-- and on which sheet and line the pages 1, 58 and 59 stand
pub second_sheet : List Bool
second_sheet =
    let a : List ℕ = replicate 4860 7 ++ second59 in
    same_list (drop 4860 (sheets_by 59 58 page_of59)) second59
    ∷ eqb (number_in a 2 1 7 6) 59
    ∷ eqb (number_in a 2 2 1 6) 59
    ∷ eqb (number_in a 2 2 7 6) 59
    ∷ eqb (number_in a 2 2 13 6) 59
    ∷ eqb (number_in a 2 2 19 6) 58
    ∷ eqb (number_in a 2 2 25 4) 100
    ∷ eqb (number_in a 2 60 1 6) 2
    ∷ same_list (sheet_number 1 ∷ sheet_number 58 ∷ sheet_number 59 ∷ []) (1 ∷ 1 ∷ 2 ∷ [])
    ∷ same_list (line_number 1 ∷ line_number 58 ∷ line_number 59 ∷ []) (2 ∷ 59 ∷ 2 ∷ [])
    ∷ []

pub second_sheet_hold : every computed second_sheet ≡ true
unfolding computed second_sheet
second_sheet_hold = refl

-- E's sheet: its best plan has three pages
abbrev sheet_e : List ℕ
sheet_e =
    line_with (bytes "PAGES      3")
    ++ line_with (bytes "     1     1     1     5 100")
    ++ line_with (bytes "     2     2     6     4  80")
    ++ line_with (bytes "     3     4     5     4  80")
    ++ list_to 55 (λ p. line_with [])
    ++ line_with (bytes "     1")

-- the judge's refusals, then 12; on refusal the output is kept
pub printing : List Bool
printing =
    let lent : List ℕ = replicate 4861 7 in
    let w = print_sheets (tree_e 5 1) best_e lent in
    leaves (print_sheets (tree_e 5 1) best_e (replicate 4860 7)) sheet_e
    ∷ says_feasible (print_sheets (tree_e 5 1) best_e (replicate 4860 7)).answer.beside 3 5
    ∷ keeps w.answer w.left lent 12 4860
    ∷ answers (print_sheets (tree_e 4 1) best_e []).answer 7 1
    ∷ answers (print_sheets (tree_e 5 1) (replicate 5 0) []).answer 8 6
    ∷ answers (print_sheets (tree_e 5 1) (1 ∷ 2 ∷ 0 ∷ 0 ∷ 0 ∷ 0 ∷ []) []).answer 10 2
    ∷ answers (print_sheets (tree_e 5 1) (1 ∷ 0 ∷ 0 ∷ 0 ∷ 0 ∷ 0 ∷ []) []).answer 11 1
    ∷ eqb (number_in sheet_e 1 3 13 6) 6
    ∷ []

pub printing_hold : every computed printing ≡ true
unfolding computed printing
printing_hold = refl

-- ---- The film maker's price

-- root 2, children 1 1, K 3: the best plan has both children in a run; the single planner cuts the first of them, for a
-- full root page, and its plan has as many pages and costs less
abbrev tree_n : List ℕ
tree_n = bytes_of (3 ∷ 3 ∷ 2 ∷ 1 ∷ 2 ∷ 0 ∷ 1 ∷ 2 ∷ 0 ∷ 3 ∷ 1 ∷ 3 ∷ 0 ∷ 0 ∷ [])

abbrev best_n : List ℕ
best_n = 1 ∷ 1 ∷ 2 ∷ []

-- A full root in the limit 7, with six children of 1, of which four have a child of 6. Best lays its children in a run,
-- and five of its six pages weigh 6; single has a page more, four full ones among them, and costs less.
abbrev tree_m : List ℕ
tree_m =
    bytes_of (11 ∷ 7 ∷ 7 ∷ 1 ∷ 2 ∷ 0 ∷ 1 ∷ 2 ∷ 0 ∷ 3 ∷ 1 ∷ 3 ∷ 4 ∷ 5 ∷ 6 ∷ 4 ∷ 0 ∷ 0 ∷ 1 ∷ 5 ∷ 6 ∷ 7 ∷ 6 ∷ 6 ∷ 0 ∷ 0
    ∷ 1 ∷ 7 ∷ 8 ∷ 9 ∷ 6 ∷ 8 ∷ 0 ∷ 0 ∷ 1 ∷ 9 ∷ 10 ∷ 11 ∷ 6 ∷ 10 ∷ 0 ∷ 0 ∷ 1 ∷ 11 ∷ 0 ∷ 0 ∷ [])

abbrev best_m : List ℕ
best_m = 1 ∷ 1 ∷ 2 ∷ 1 ∷ 2 ∷ 1 ∷ 2 ∷ 1 ∷ 2 ∷ 1 ∷ 2 ∷ []

-- the price is number n at place p, with these cents
abbrev costs : Outcome Answer ℕ → ℕ → ℕ → ℕ → Bool
costs r n p cents = answers r.answer n p && eqb r.left cents

-- totals with the root page; fills rounded down, and full only at K; all sixteen prices; the judge's refusals; best is
-- not cheapest
pub priced : List Bool
priced =
    costs (price_plan (tree_e 5 1) best_e) 0 0 578
    ∷ costs (price_plan (tree_e 5 1) (1 ∷ 1 ∷ 1 ∷ 0 ∷ 0 ∷ 1 ∷ [])) 0 0 925
    ∷ same_list (fill_of 0 5 ∷ fill_of 1 1024 ∷ fill_of 68 1024 ∷ fill_of 69 1024 ∷ fill_of 1023 1024 ∷ fill_of 1024 1024 ∷ [])
    (0 ∷ 0 ∷ 0 ∷ 1 ∷ 14 ∷ 15 ∷ [])
    ∷ same_list (list_to 16 (λ i. price_at (i - 1) ∷ []))
    (410 ∷ 405 ∷ 398 ∷ 390 ∷ 380 ∷ 368 ∷ 355 ∷ 340 ∷ 324 ∷ 306 ∷ 287 ∷ 266 ∷ 244 ∷ 221 ∷ 196 ∷ 90 ∷ [])
    ∷ costs (price_plan (tree_e 4 1) best_e) 7 1 0
    ∷ costs (price_plan (tree_e 5 1) (replicate 5 0)) 8 6 0
    ∷ costs (price_plan (tree_e 5 1) (1 ∷ 2 ∷ 0 ∷ 0 ∷ 0 ∷ 0 ∷ [])) 10 2 0
    ∷ costs (price_plan (tree_e 5 1) (1 ∷ 0 ∷ 0 ∷ 0 ∷ 0 ∷ 0 ∷ [])) 11 1 0
    ∷ ltb (price_plan tree_n (1 ∷ 1 ∷ 0 ∷ [])).left (price_plan tree_n best_n).left
    ∷ []

pub priced_hold : every computed priced ≡ true
unfolding computed priced
priced_hold = refl

abbrev same_int : ℤ → ℤ → Bool
same_int (pos a) (pos b) = eqb a b
same_int (pos a) (negsuc b) = false
same_int (negsuc a) (pos b) = false
same_int (negsuc a) (negsuc b) = eqb a b

-- the saving accepts, with bytes of no meaning lent, leaves the marks m and cleared scratch, and gives z
pub saves : List ℕ → List ℕ → ℤ → Bool
saves t m z =
    let words : ℕ = scratch_words (node_count t) (limit_of t) in
    let out : Outcome Answer SavingLeft = save_best t (replicate (node_count t) 9) (replicate words 7) in
    answers out.answer 0 0 && same_list out.left.best.marks m
    && same_list out.left.best.scratch (replicate words 0) && same_int out.left.saving z

-- above, below and at zero, with the marks of best; less for a plan with a page more; a planner's refusals, with the
-- marks, the scratch and no saving
pub savings : List Bool
savings =
    let r = save_best (tree_e 5 1) (replicate 6 9) (replicate 191 7) in
    saves (tree_e 5 1) best_e (pos 347)
    ∷ saves tree_n best_n (negsuc 115)
    ∷ saves tree_a (1 ∷ []) (pos 0)
    ∷ saves tree_m best_m (negsuc 63)
    ∷ plans plan_best tree_m best_m 6 7
    ∷ plans plan_single tree_m (1 ∷ 1 ∷ 1 ∷ 0 ∷ 1 ∷ 0 ∷ 1 ∷ 0 ∷ 1 ∷ 0 ∷ 1 ∷ []) 7 7
    ∷ keeps r.answer r.left.best.marks (replicate 6 9) 9 192
    ∷ spares (tree_e 5 1) 6 191 9 192 (λ t m s. outcome (save_best t m s).answer (save_best t m s).left.best)
    ∷ same_int r.left.saving (pos 0)
    ∷ answers (save_best (tree_e 4 1) [] []).answer 7 1
    ∷ answers (save_best (tree_e 5 1) [] []).answer 8 6
    ∷ []

pub savings_hold : every computed savings ≡ true
unfolding computed savings saves plans
savings_hold = refl

-- ---- Sequences of sibling runs of E: its best plan's in any order, those that do not hold it, or too heavy, and how
-- often a run is in one

abbrev run : ℕ → ℕ → Run
run first last = record { first = first; last = last }

pub sequences : List Bool
sequences =
    holds (tree_e 5 1) (run 4 5 ∷ run 1 1 ∷ run 2 6 ∷ [])
    ∷ within_limit (tree_e 5 1) (run 4 5 ∷ run 1 1 ∷ run 2 6 ∷ [])
    ∷ eqb (root_weight (tree_e 5 1) (run 4 5 ∷ run 1 1 ∷ run 2 6 ∷ [])) 5
    ∷ not (holds (tree_e 5 1) (run 4 5 ∷ run 2 6 ∷ []))
    ∷ not (holds (tree_e 5 1) (run 1 1 ∷ run 2 3 ∷ run 3 6 ∷ []))
    ∷ not (holds (tree_e 5 1) (run 1 1 ∷ run 4 5 ∷ run 4 5 ∷ []))
    ∷ not (holds (tree_e 5 1) (run 1 1 ∷ run 6 2 ∷ []))
    ∷ not (holds (tree_e 5 1) (run 1 1 ∷ run 2 4 ∷ []))
    ∷ not (holds (tree_e 5 1) (run 1 1 ∷ run 7 7 ∷ []))
    ∷ holds (tree_e 5 1) (run 1 1 ∷ run 2 2 ∷ [])
    ∷ not (within_limit (tree_e 5 1) (run 1 1 ∷ run 2 2 ∷ []))
    ∷ not (within_limit (tree_e 5 1) (run 1 1 ∷ run 2 6 ∷ []))
    ∷ eqb (count_of (same_run (run 2 6)) (run 4 5 ∷ run 1 1 ∷ run 2 6 ∷ [])) 1
    ∷ eqb (count_of (same_run (run 2 3)) (run 4 5 ∷ run 1 1 ∷ run 2 6 ∷ [])) 0
    ∷ eqb (count_of (same_run (run 3 6)) (run 4 5 ∷ run 1 1 ∷ run 2 6 ∷ [])) 0
    ∷ []

pub sequences_hold : every computed sequences ≡ true
unfolding computed sequences
sequences_hold = refl

-- ---- What the promises read off film: the runs in the page records, and the weight in page record 1

pub ends : List Run → List ℕ
ends [] = []
ends (r ∷ rs) = r.first ∷ r.last ∷ ends rs

pub on_film : List Bool
on_film =
    same_list (ends (runs_in first_edition first_e)) (1 ∷ 1 ∷ 2 ∷ 6 ∷ 4 ∷ 5 ∷ [])
    ∷ same_list (ends (runs_in second_edition second_e)) (1 ∷ 1 ∷ 2 ∷ 6 ∷ 4 ∷ 5 ∷ [])
    ∷ eqb (root_in first_edition first_e) 5
    ∷ eqb (root_in second_edition second_e) 5
    ∷ []

pub on_film_hold : every computed on_film ≡ true
unfolding computed on_film ends runs_in root_in
on_film_hold = refl

-- ---- A late leaf

-- a leaf put in below node v of a table, with an output of so many bytes of no meaning
abbrev late : ℕ → List ℕ → ℕ → ℕ → ℕ → Written
late long t v w l = add_leaf t v w l (replicate long 9)

-- refused, with the output as lent
abbrev refuses : ℕ → List ℕ → ℕ → ℕ → ℕ → ℕ → ℕ → Bool
refuses long t v w l n p = keeps (late long t v w l).answer (late long t v w l).left (replicate long 9) n p

-- root 2, children 1, 1, limit 2: two pages; with a leaf of 2 after them three, and with the 2 between them four
abbrev tree_l : List ℕ
tree_l = bytes_of (3 ∷ 2 ∷ 2 ∷ 1 ∷ 2 ∷ 0 ∷ 1 ∷ 2 ∷ 0 ∷ 3 ∷ 1 ∷ 3 ∷ 0 ∷ 0 ∷ [])

-- root 0, child 2, limit 2: one page; with a leaf of 1 beside the child two, and the root page is lighter
abbrev tree_z : List ℕ
tree_z = bytes_of (2 ∷ 2 ∷ 0 ∷ 1 ∷ 2 ∷ 0 ∷ 2 ∷ 2 ∷ 0 ∷ 0 ∷ [])

-- E with a leaf 1, label 9, below nodes 3 and 5; the leaf's number below each node, parents with the leaf below 3, and
-- what becomes of numbers; each refusal before the next, the tree reader's of the table with the leaf, the node limit;
-- and what a leaf costs
pub late_leaves : List Bool
late_leaves =
    let e : List ℕ = tree_e 5 1 in
    let a : List ℕ = leaf_table e 3 1 9 in
    leaves (late 60 e 3 1 9)
    (bytes_of (7 ∷ 5 ∷ 5 ∷ 1 ∷ 2 ∷ 0 ∷ 2 ∷ 2 ∷ 0 ∷ 3 ∷ 1 ∷ 3 ∷ 4 ∷ 7 ∷ 2 ∷ 4 ∷ 0 ∷ 5 ∷ 2 ∷ 5 ∷ 0 ∷ 6 ∷ 1 ∷ 9 ∷ 0 ∷ 0 ∷ 1
    ∷ 6 ∷ 0 ∷ 0 ∷ []))
    ∷ leaves (late 60 e 5 1 9)
    (bytes_of (7 ∷ 5 ∷ 5 ∷ 1 ∷ 2 ∷ 0 ∷ 2 ∷ 2 ∷ 0 ∷ 3 ∷ 1 ∷ 3 ∷ 4 ∷ 7 ∷ 2 ∷ 4 ∷ 0 ∷ 5 ∷ 2 ∷ 5 ∷ 6 ∷ 0 ∷ 1 ∷ 9 ∷ 0 ∷ 0 ∷ 1
    ∷ 6 ∷ 0 ∷ 0 ∷ []))
    ∷ leaves (late 20 (tree_one 1) 1 0 9) (bytes_of (2 ∷ 1 ∷ 1 ∷ 1 ∷ 2 ∷ 0 ∷ 0 ∷ 9 ∷ 0 ∷ 0 ∷ []))
    ∷ same_list (list_to 6 (λ v. leaf_number e v ∷ [])) (7 ∷ 3 ∷ 6 ∷ 5 ∷ 6 ∷ 7 ∷ [])
    ∷ same_list (list_to 7 (λ u. parent_at a u ∷ [])) (0 ∷ 1 ∷ 1 ∷ 3 ∷ 3 ∷ 3 ∷ 1 ∷ [])
    ∷ same_list (raised 6 0 ∷ raised 6 5 ∷ raised 6 6 ∷ []) (0 ∷ 5 ∷ 7 ∷ [])
    ∷ refuses 60 (tree_e 4 1) 0 1 9 7 1
    ∷ refuses 60 e 0 1 9 16 0
    ∷ refuses 60 e 7 1 0 16 7
    ∷ refuses 60 e 65537 1 9 16 65537
    ∷ answers (late 60 e 3 5 9).answer 0 0
    ∷ refuses 60 e 3 6 0 14 6
    ∷ answers (read_tree (leaf_table e 3 6 0)) 14 6
    ∷ refuses 59 e 3 6 9 7 6
    ∷ answers (read_tree (leaf_table e 3 6 9)) 7 6
    ∷ refuses 59 e 3 1 9 12 60
    ∷ refuses 52 e 3 1 9 12 60
    ∷ answers (first_of (no_parent (bytes_of (2048 ∷ 1 ∷ [])) 5 ∷ []) accepted) 16 5
    ∷ answers (first_of (no_parent (bytes_of (2047 ∷ 1 ∷ [])) 2047 ∷ []) accepted) 0 0
    ∷ plans plan_best tree_l (1 ∷ 1 ∷ 2 ∷ []) 2 2
    ∷ plans plan_best (leaf_table tree_l 1 2 4) (1 ∷ 1 ∷ 2 ∷ 1 ∷ []) 3 2
    ∷ plans plan_best (tree_w 2 2 1 2 1) (1 ∷ 1 ∷ 1 ∷ 1 ∷ []) 4 2
    ∷ plans plan_best tree_z (1 ∷ 0 ∷ []) 1 2
    ∷ plans plan_best (leaf_table tree_z 1 1 3) (1 ∷ 1 ∷ 0 ∷ []) 2 1
    ∷ []

pub late_leaves_hold : every computed late_leaves ≡ true
unfolding computed late_leaves plans
late_leaves_hold = refl
