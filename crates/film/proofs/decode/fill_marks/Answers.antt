use Rattle.std.proofs.Common.{refl, ◌-◌, arith, eqb, get_or, replicate, length-set}
use Rattle.std.proofs.lemmas.List.{get_or-replicate}
use Rattle.records.specs.Size.{film_slots}
use Rattle.film.specs.DecodeMarks.{marks_start}
use Rattle.film.proofs.Passes.{sibling_small, marks_more}
use Rattle.film.proofs.decode.fill_marks.Goals as goal

pub loop-v-init : goal.loop-v-init
loop-v-init c =
    let a = c.args in record {
      few = omega arith;
      long = refl;
      passed = marks_start a.lasts.now a.links.now a.nodes a.plan.now (replicate film_slots 0)
          (λ k fits. get_or-replicate film_slots k 0 0 fits);
    }

pub bounds-due-next : goal.bounds-due-next
bounds-due-next c =
    let v = c.loop-v.v in
    let link = c.requires.1 v (omega arith) (omega arith) in
    omega (arith, c.sibling_of-next.ensures, sibling_small (eqb v 1) (get_or c.args.links.now v 0) link)

pub loop-v-preserved : goal.loop-v-preserved
loop-v-preserved c =
    let l = c.loop-v in
    let a = c.args in record {
      few = omega arith;
      long = simp length-set l.invariant.long;
      passed = marks_more a.lasts.now a.links.now a.nodes (l.v - 1) l.v _ l.plan l.due _ _ _ (omega arith) (omega arith)
          l.invariant.passed l.invariant.long (omega arith) (omega arith) c.run_end-end.ensures c.mark_for.ensures
          c.sibling_of-next.ensures;
    }

pub returns-2 : goal.returns-2
returns-2 c =
    let l = c.loop-v in
    let a = c.args in
    λ t m given.
    (marks_more a.lasts.now a.links.now a.nodes (l.v - 1) l.v a.nodes l.plan l.due _ _ _ (omega arith) (omega arith)
    l.invariant.passed l.invariant.long (omega arith) (omega arith) c.run_end-end.ensures c.mark_for.ensures
    c.sibling_of-next.ensures t m given).0
