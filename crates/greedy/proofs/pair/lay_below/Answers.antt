use Rattle.std.proofs.Common.{◌≡◌, ℕ, List, ap, ◌∙◌, eq-eqb, ne_eqb}
use Rattle.model.specs.Basics.{pick}
use Rattle.greedy.specs.Kept.{kept, kept_some}
use Rattle.greedy.specs.PairMarks.{put, uncut_after, first_cut_at, next_cut_at}
use Rattle.greedy.proofs.TwoWay.{first_is, next_is, below_is}
use Rattle.greedy.proofs.pair.lay_below.Goals as goal
use Rattle.greedy.proofs.pair.lay_below.Goals.{then-mark-eq0, else-mark-eq0, then-cuts_left, else-cuts_left}
use Rattle.greedy.proofs.pair.lay_below.Goals.{then-cuts_right, else-cuts_right}

pub returns : goal.returns
unfolding pick uncut_after
returns c =
    let ready = c.requires.0 in
    let tree = c.args.kept.tree.accepted in
    let s = c.at_node-sides.ensures in
    let a = c.args.marks.now in
    let v = c.args.v in
    let t = c.args.kept.tree.table.now in
    let uncut : c.if-mark-eq0.uncut ≡ uncut_after (kept a v) =
    elim c.if-mark-eq0.branch [
      | then-mark-eq0 w ↦ rw (w.uncut-is, ← kept_some a v ready.low, eq-eqb _ 0 w.if-mark-eq0.true)
      | else-mark-eq0 w ↦ rw (w.uncut-is, ← kept_some a v ready.low, ne_eqb _ 0 w.if-mark-eq0.false)
    ] in
    let first : c.if-cuts_left.first ≡ pick (first_cut_at t v) 1 0 =
    elim c.if-cuts_left.branch [
      | then-cuts_left w ↦ rw (w.first-is, ← first_is tree ready s, ← c.cuts_left.ensures, w.if-cuts_left.true)
      | else-cuts_left w ↦ rw (w.first-is, ← first_is tree ready s, ← c.cuts_left.ensures, w.if-cuts_left.false)
    ] in
    let next : c.if-cuts_right.next ≡ pick (next_cut_at t v) 1 (uncut_after (kept a v)) =
    elim c.if-cuts_right.branch [
      | then-cuts_right w ↦ rw (w.next-is, ← next_is tree ready s, ← c.cuts_right.ensures, w.if-cuts_right.true)
      | else-cuts_right w ↦ rw (w.next-is, ← next_is tree ready s, ← c.cuts_right.ensures, w.if-cuts_right.false) uncut
    ] in
    c.put_mark-2.ensures
    ∙ ap (λ (l : List ℕ). put l c.next_at.result c.if-cuts_right.next) c.put_mark.ensures
    ∙ below_is t a v _ _ _ _ c.first_at.ensures c.next_at.ensures first next
