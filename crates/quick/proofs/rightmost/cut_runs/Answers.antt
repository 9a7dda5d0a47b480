use Rattle.std.proofs.Common.{◌≡◌, ℕ, ◌+◌, ◌-◌, not, ◌&&◌, ◌||◌, is_some, eqb, leb, ltb, get_or, set}
use Rattle.std.proofs.Common.{arith, refl, sym, ◌∙◌, ap}
use Rattle.model.specs.Basics.{pick}
use Rattle.theory.specs.Ranges.{pick_true, pick_false}
use Rattle.quick.specs.Rightmost.{run_mark}
use Rattle.quick.proofs.RightmostRuns.{cutting_start, kept_high, kept_fits}
use Rattle.quick.proofs.RightmostRuns.{rest_left, cutting_turn, cutting_end}
use Rattle.quick.proofs.rightmost.cut_runs.Goals as goal
use Rattle.quick.proofs.rightmost.cut_runs.Goals.{then-is_some, else-is_some, then-cut, else-cut}
use Rattle.quick.proofs.rightmost.cut_runs.Goals.{then-before-ne0, else-before-ne0, then-cut-2, then-goes, else-goes, else-cut-2}

pub loop-child-init : goal.loop-child-init
loop-child-init c =
    rw (c.weight_at-weight.ensures, c.first_at-first.ensures) (cutting_start c.args.tree.accepted c.requires _ refl)

pub overflow_add-kept : goal.overflow_add-kept
overflow_add-kept c =
    let a = c.args.tree.accepted in
    omega (arith, kept_fits a c.requires c.loop-child.invariant, a.sound.limit_high)

pub overflow_sub-left : goal.overflow_sub-left
overflow_sub-left c =
    rest_left c.args.tree.accepted c.requires c.loop-child.invariant c.loop-child-test.true _ _ refl refl

pub loop-child-preserved : goal.loop-child-preserved
unfolding run_mark
loop-child-preserved c =
    let l = c.loop-child in
    let before = get_or c.args.nodes.now.before.now l.child 0 in
    let rest = get_or c.args.nodes.now.rests l.child 0 in
    let weighs = c.unwrap_or.result + get_or c.args.nodes.now.rests before 0 in
    let limit = c.limit_of-limit.result in
    let cut = c.if-is_some.cut in
    let goes = c.if-before-ne0.goes in
    let cut_is : cut ≡ (is_some l.run || ltb limit l.left) =
    elim c.if-is_some.branch [
      | then-is_some w ↦ rw (w.cut-is, ← c.is_some.ensures, w.if-is_some.true)
      | else-is_some w ↦ rw (w.cut-is, ← c.is_some.ensures, w.if-is_some.false)
    ] in
    let some_is : c.if-cut.value ≡ (cut && not (eqb before 0)) =
    elim c.if-cut.branch [
      | then-cut w ↦ rw (w.value-is, w.if-cut.true)
      | else-cut w ↦ rw (w.value-is, w.if-cut.false)
    ] in
    let goes_is : goes ≡ ((cut && not (eqb before 0)) && leb weighs limit) =
    elim c.if-before-ne0.branch [
      | then-before-ne0 w ↦ rw (w.goes-is, ← some_is, w.if-before-ne0.true)
      | else-before-ne0 w ↦ rw (w.goes-is, ← some_is, w.if-before-ne0.false)
    ] in
    let written : (c.if-cut-2.marks ≡ set l.marks (l.child - 1) (run_mark cut goes))
    × (c.if-cut-2.kept ≡ l.kept + pick cut 0 rest) =
    elim c.if-cut-2.branch [
      | then-cut-2 w ↦
          let mark : w.if-goes.marks ≡ pick goes 2 1 =
          elim w.if-goes.branch [
            | then-goes x ↦ x.marks-is ∙ sym (pick_true goes 2 1 x.if-goes.true)
            | else-goes x ↦ x.marks-is ∙ sym (pick_false goes 2 1 x.if-goes.false)
          ] in (
            w.marks-is ∙ ap (set l.marks (l.child - 1)) (mark ∙ sym (pick_true cut (pick goes 2 1) 0 w.if-cut-2.true)),
            omega (arith, w.kept-is, pick_true cut 0 rest w.if-cut-2.true),
          )
      | else-cut-2 w ↦ (
        w.marks-is ∙ ap (set l.marks (l.child - 1)) (sym (pick_false cut (pick goes 2 1) 0 w.if-cut-2.false)),
        omega (arith, w.kept-is, pick_false cut 0 rest w.if-cut-2.false),
      )
    ] in
    rw c.then_some-run.ensures
    (cutting_turn c.args.tree.accepted c.requires l.invariant c.loop-child-test.true before rest refl refl limit cut goes
    weighs _ _ c.limit_of-limit.ensures cut_is
    (ap (λ (k : ℕ). k + get_or c.args.nodes.now.rests before 0) c.unwrap_or.ensures) goes_is written)

pub overflow_cast-result : goal.overflow_cast-result
overflow_cast-result c =
    let a = c.args.tree.accepted in
    omega (arith, kept_high a c.requires c.loop-child.invariant, a.sound.limit_high)

pub returns : goal.returns
returns c = cutting_end c.args.tree.accepted c.requires c.loop-child.invariant (omega arith)
