-- The answers of the tree reader and of the judge, with 14 or without: what acceptance tells of a tree, and the judge's
-- answer from the tree's and the marks'.
-- Defines tree_answer, head_answer, node_answer. Proves tree_accepted, tree_facts, with_labels, with_passes, with_facts;
-- head_refuses, head_goes_on, head_count; found_verdict, judge_refuses, judge_eight, judge_verdict; page_count_le.
-- Assumes nothing.
use Rattle.std.specs.Prelude.{ℕ, ◌≤◌, ◌≡◌, Bool, true, not, List, ◌++◌, eqb, length}
use Rattle.std.proofs.Math.Path.{refl, sym, ap}
use Rattle.std.proofs.Common.{◌∙◌}
use Rattle.model.specs.Basics.{when, at_place}
use Rattle.model.specs.Table.{max_nodes, node_count}
use Rattle.model.specs.Plan.{bad_mark, heavy_page, page_count, page_weight, verdict_of}
use Rattle.model.specs.Refusals.{Rules, bad_marks, mark_refused, page_refused, head_checks, node_checks, weight_checks}
use Rattle.model.specs.Refusals.{form_checks, tree_checks, found_checks, mark_checks, judge_checks, passes, accepted_tree}
use Rattle.model.specs.Refusals.{answer_of, refused, accepted, first_of, read_tree, judge_by}
use Rattle.std.specs.declared.option.Option.{Option}
use Rattle.std.specs.declared.option.Option.TheVariants.{Some, None}
use Rattle.model.specs.declared.Cause.TheVariants.{BadMark, HeavyPage}
use Rattle.model.specs.declared.Verdict.{Verdict}
use Rattle.model.specs.declared.Verdict.TheVariants.{Feasible, Failed}
use Rattle.model.specs.Refusals.{Answer}
use Rattle.theory.specs.Ranges.{at_place_at, at_place_nowhere, count_to_le}
use Rattle.theory.specs.Checks.{head_plain, tree_never, first_of_append, first_of_pass, first_of_stop}
use Rattle.theory.specs.Checks.{accepted_pass, refused_fails}
use Rattle.theory.specs.Entries.{unequal, equal}
use Rattle.theory.specs.TableFacts.{AcceptedFacts, head_facts, passed_facts, accepted_facts}

-- ---- The tree

-- a tree that the reader does not refuse is accepted
pub tree_accepted : (t : List ℕ) → (read_tree t).number ≡ 0 → accepted_tree t ≡ true
unfolding read_tree accepted_tree
tree_accepted t e = accepted_pass (tree_checks true t) accepted (tree_never true t) e

pub tree_facts : (t : List ℕ) → (read_tree t).number ≡ 0 → AcceptedFacts t
tree_facts t e = accepted_facts t (tree_accepted t e)

-- the tree reader with 14, or without
unfoldable pub tree_answer : Bool → List ℕ → Answer
tree_answer filed t = first_of (tree_checks filed t) accepted

pub with_labels : (t : List ℕ) → tree_answer true t ≡ read_tree t
unfolding tree_answer read_tree
with_labels t = refl

pub with_passes : (filed : Bool) (t : List ℕ) → (tree_answer filed t).number ≡ 0 → passes (tree_checks filed t) ≡ true
unfolding tree_answer
with_passes filed t e = accepted_pass (tree_checks filed t) accepted (tree_never filed t) e

pub with_facts : (filed : Bool) (t : List ℕ) → (tree_answer filed t).number ≡ 0 → AcceptedFacts t
with_facts filed t e = passed_facts filed t (with_passes filed t e)

-- the answer of the checks of the head alone
unfoldable pub head_answer : List ℕ → Answer
head_answer t = first_of (head_checks t) accepted

-- the checks of the nodes, after those of the head
unfoldable pub node_answer : Bool → List ℕ → Answer
node_answer filed t = first_of (node_checks filed t) (first_of (weight_checks t) accepted)

module _ (filed : Bool) (t : List ℕ) where
  parts : tree_answer filed t ≡ first_of (head_checks t ++ node_checks filed t) (first_of (weight_checks t) accepted)
  unfolding tree_answer tree_checks form_checks
  parts = first_of_append (form_checks filed t) (weight_checks t) accepted

  pub head_refuses : ((head_answer t).number ≡ 0 → ⊥) → head_answer t ≡ tree_answer filed t
  unfolding head_answer
  head_refuses h =
      sym
      (parts
      ∙ first_of_stop (head_checks t) (node_checks filed t) _ accepted (refused_fails (head_checks t) accepted refl h))

  pub head_goes_on : (head_answer t).number ≡ 0 → node_answer filed t ≡ tree_answer filed t
  unfolding head_answer node_answer
  head_goes_on z =
      sym
      (parts
      ∙ first_of_pass (head_checks t) (node_checks filed t) _
      (accepted_pass (head_checks t) accepted (head_plain t).0 z))

pub head_count : (t : List ℕ) → (head_answer t).number ≡ 0 → node_count t ≤ max_nodes
unfolding head_answer
head_count t e = (head_facts t (accepted_pass (head_checks t) accepted (head_plain t).0 e)).0.1

-- ---- The plan

-- the checks of the marks and the pages give the verdict's own answer
verdict_stands : (o p : Option ℕ) (v : Verdict)
    → at_place o (λ u. answer_of (Failed (BadMark u)))
    (at_place p (λ q. answer_of (Failed (HeavyPage q)))
    (answer_of (at_place o (λ u. Failed (BadMark u)) (at_place p (λ q. Failed (HeavyPage q)) v))))
    ≡ answer_of (at_place o (λ u. Failed (BadMark u)) (at_place p (λ q. Failed (HeavyPage q)) v))
unfolding at_place
verdict_stands (Some u) p v = refl
verdict_stands None (Some q) v = refl
verdict_stands None None v = refl

found_stands : (o p : Option ℕ) (v : Verdict)
    → at_place o (λ u. answer_of (Failed (BadMark u))) (at_place p (λ q. answer_of (Failed (HeavyPage q))) (answer_of v))
    ≡ answer_of (at_place o (λ u. Failed (BadMark u)) (at_place p (λ q. Failed (HeavyPage q)) v))
unfolding at_place
found_stands (Some u) p v = refl
found_stands None (Some q) v = refl
found_stands None None v = refl

-- the answer to a plan of the right length: the first of what is found, and else acceptance with its figures
pub found_verdict : (t m : List ℕ)
    → first_of (found_checks t m) (answer_of (Feasible (page_count t m) (page_weight t m 1))) ≡ answer_of (verdict_of t m)
unfolding first_of found_checks mark_refused page_refused verdict_of
found_verdict t m = found_stands (bad_mark t m) (heavy_page t m) (Feasible (page_count t m) (page_weight t m 1))

module _ (rules : Rules) (t m : List ℕ) where
  abbrev given : Answer
  given = answer_of (verdict_of t m)

  -- the judge goes on from the tree's answer
  pub judge_refuses : ((tree_answer rules.filed t).number ≡ 0 → ⊥) → tree_answer rules.filed t ≡ judge_by rules t m
  unfolding tree_answer judge_checks
  judge_refuses h =
      sym
      (first_of_stop (tree_checks rules.filed t) (mark_checks t m) given accepted
      (refused_fails (tree_checks rules.filed t) accepted refl h))

  module _ (tree : passes (tree_checks rules.filed t) ≡ true) where
    marks_next : judge_by rules t m
        ≡ at_place (when (not (eqb (length m) (node_count t))) (node_count t)) (refused 8) (answer_of (verdict_of t m))
    unfolding judge_checks mark_checks first_of bad_marks found_checks mark_refused page_refused verdict_of
    marks_next =
        first_of_pass (tree_checks rules.filed t) (mark_checks t m) given tree
        ∙ ap (at_place (when (not (eqb (length m) (node_count t))) (node_count t)) (refused 8))
        (verdict_stands (bad_mark t m) (heavy_page t m) (Feasible (page_count t m) (page_weight t m 1)))

    -- a plan that is not one mark a node
    pub judge_eight : (length m ≡ node_count t → ⊥) → refused 8 (node_count t) ≡ judge_by rules t m
    judge_eight h =
        sym (marks_next ∙ at_place_at _ (node_count t) (refused 8) _ (unequal (length m) (node_count t) h))

    -- a plan of the right length
    pub judge_verdict : length m ≡ node_count t → answer_of (verdict_of t m) ≡ judge_by rules t m
    judge_verdict h = sym (marks_next ∙ at_place_nowhere _ (refused 8) _ (equal (length m) (node_count t) h))

pub page_count_le : (t m : List ℕ) → page_count t m ≤ node_count t
unfolding page_count
page_count_le t m = count_to_le (node_count t) _
