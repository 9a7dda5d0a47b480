use Rattle.std.proofs.Common.{◌≡◌, ℕ, ◌+◌, List, get_or, ap, ◌∙◌, arith}
use Rattle.model.specs.Table.{limit_of}
use Rattle.columns.specs.CellsRun.{block_at}
use Rattle.best.proofs.LayNode.{Found, walk_from, walk_high}
use Rattle.best.proofs.LayNode.{walk_stay, walk_ready, walk_less, walk_run, walk_end}
use Rattle.best.proofs.lay.lay_children.Goals as goal

-- the length of the run that won
found : {t xs : List ℕ} {K start child block len : ℕ} → K ≡ limit_of t → (child ≡ 0 → ⊥) → block ≡ block_at K child
    → len ≡ get_or xs (block + (K + 1) + start) 0
    → Found t xs K start child len
found {xs = xs} {K = K} {start = start} limit some block len =
    record { limit_is = limit; some = some; run_is = len ∙ ap (λ b. get_or xs (b + (K + 1) + start) 0) block }

pub loop-child-init : goal.loop-child-init
loop-child-init c =
    let w = walk_from c.requires c.limit_of-limit.result c.start_of-start.result c.limit_of-limit.ensures
    c.start_of-start.ensures in
    (walk_high c.requires w, w)

pub loop-child-preserved-then-len-eq0 : goal.loop-child-preserved-then-len-eq0
loop-child-preserved-then-len-eq0 c =
    let w = walk_stay c.requires c.loop-child.invariant.1
    (found c.limit_of-limit.ensures c.loop-child-test.true c.block_at.ensures (omega arith)) c.if-len-eq0.true _ (omega arith) in
    (walk_high c.requires w, w)

pub lay_run-child-requires : goal.lay_run-child-requires
lay_run-child-requires c =
    walk_ready c.requires c.loop-child.invariant.1
    (found c.limit_of-limit.ensures c.loop-child-test.true c.block_at.ensures (omega arith)) c.if-len-eq0.false

pub loop-child-smaller : goal.loop-child-smaller
loop-child-smaller c =
    walk_less c.requires c.loop-child.invariant.1
    (found c.limit_of-limit.ensures c.loop-child-test.true c.block_at.ensures (omega arith)) c.if-len-eq0.false c.lay_run-child.ensures

pub loop-child-preserved : goal.loop-child-preserved
loop-child-preserved c =
    let w = walk_run c.requires c.loop-child.invariant.1
    (found c.limit_of-limit.ensures c.loop-child-test.true c.block_at.ensures (omega arith)) c.if-len-eq0.false
    c.lay_run-child.ensures in
    (walk_high c.requires w, w)

pub returns : goal.returns
returns c = walk_end c.requires c.loop-child.invariant.1 c.loop-child-test.false
