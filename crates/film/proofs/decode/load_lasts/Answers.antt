use Rattle.std.proofs.Common.{refl, ap, ◌∙◌, arith, replicate, length-set}
use Rattle.std.proofs.lemmas.List.{get_or-replicate}
use Rattle.records.specs.Size.{film_slots}
use Rattle.film.specs.DecodeTable.{fitted, fitted_small}
use Rattle.film.specs.DecodeMarks.{last_start, lasts_end}
use Rattle.film.proofs.Passes.{lasts_more}
use Rattle.film.proofs.decode.load_lasts.Goals as goal

pub loop-q-init : goal.loop-q-init
loop-q-init c = record {
  long = refl;
  few = omega arith;
  passed = λ t m w. last_start w (replicate film_slots 0) (λ k fits. get_or-replicate film_slots k 0 0 fits);
}

pub bounds-lasts-first : goal.bounds-lasts-first
bounds-lasts-first c = omega (arith, c.fit-first.ensures, fitted_small c.page_field.result)

pub loop-q-preserved : goal.loop-q-preserved
loop-q-preserved c =
    let l = c.loop-q in
    let a = c.args.film in
    let pages = c.fit-q-end.ensures ∙ ap fitted c.pages.ensures in
    let first = c.fit-first.ensures ∙ ap fitted c.page_field.ensures in record {
      long = simp length-set l.invariant.long;
      few = omega arith;
      passed = lasts_more a.format.in_room.is _ l.lasts _ l.q _ _ _ _ (omega arith) (omega arith) l.invariant.passed
          pages l.invariant.long (omega arith) first c.page_field-in-loop-q.ensures;
    }

pub returns : goal.returns
returns c =
    let l = c.loop-q in
    let pages = c.fit-q-end.ensures ∙ ap fitted c.pages.ensures in
    lasts_end c.args.film.format.in_room.is _ l.lasts _ _ l.invariant.passed pages (omega arith)

pub returns-2 : goal.returns-2
returns-2 c =
    let l = c.loop-q in
    let a = c.args.film in
    let pages = c.fit-q-end.ensures ∙ ap fitted c.pages.ensures in
    let first = c.fit-first.ensures ∙ ap fitted c.page_field.ensures in
    let passed =
    lasts_more a.format.in_room.is a.archive.now l.lasts _ l.q l.q _ _ _ (omega arith) refl l.invariant.passed pages
    l.invariant.long (omega arith) first c.page_field-in-loop-q.ensures in
    lasts_end a.format.in_room.is _ _ _ _ passed pages (omega arith)
