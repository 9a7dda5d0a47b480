use Rattle.std.proofs.Common.{◌∙◌, sym, ap, inl, inr, arith}
use Rattle.greedy.specs.Kept.{kept}
use Rattle.greedy.proofs.Scan.{scan_start, scan_turn}
use Rattle.greedy.proofs.single.find_heaviest.Goals as goal
use Rattle.greedy.proofs.single.find_heaviest.Goals.{then-most-rest, else-most-rest}

pub loop-u-init : goal.loop-u-init
loop-u-init c = (
  scan_start c.args.kept.tree.accepted.sound c.args.kept.scratch.now c.args.v _ c.requires.0 c.requires.1
      c.next_at-u.ensures,
  c.at-most.ensures,
)

pub loop-u-preserved : goal.loop-u-preserved
loop-u-preserved c =
    let l = c.loop-u in
    let s = c.args.kept.scratch.now in (
      scan_turn c.args.kept.tree.accepted.sound s _ l.best l.u _ l.invariant.0 (omega arith)
          c.next_at-u-in-loop-u.ensures _ _ _ l.invariant.1 c.at-rest.ensures
          (elim c.if-most-rest.branch [
            | then-most-rest w ↦ inl (w.if-most-rest.true, w.best-is)
            | else-most-rest w ↦ inr (w.if-most-rest.false, w.best-is)
          ]),
      elim c.if-most-rest.branch [
        | then-most-rest w ↦ w.most-is ∙ c.at-rest.ensures ∙ ap (kept s) (sym w.best-is)
        | else-most-rest w ↦ w.most-is ∙ l.invariant.1 ∙ ap (kept s) (sym w.best-is)
      ],
    )
