use Rattle.std.proofs.Common.{arith}
use Rattle.best.proofs.LayAll.{laying_start, laying_ready, laying_turn, laying_end}
use Rattle.best.proofs.lay.lay_nodes.Goals as goal

pub loop-v-init : goal.loop-v-init
loop-v-init c = laying_start _ _ _ c.requires.1 c.requires.0.1.ready.accepted.sound.count_low

pub lay_children-requires : goal.lay_children-requires
lay_children-requires c =
    laying_ready c.loop-v.invariant c.requires.0.1 (omega (arith, c.node_count-v-end.ensures))

pub loop-v-preserved : goal.loop-v-preserved
loop-v-preserved c =
    let p = c.requires.0.1 in
    laying_turn c.loop-v.invariant (laying_ready c.loop-v.invariant p (omega (arith, c.node_count-v-end.ensures)))
    (λ w low h. p.last_child w (omega arith) h) c.lay_children.ensures

pub returns-2 : goal.returns-2
returns-2 c = λ g p.
    laying_end
    (laying_turn c.loop-v.invariant (laying_ready c.loop-v.invariant p (omega (arith, c.node_count-v-end.ensures)))
    (λ w low h. p.last_child w (omega arith) h) c.lay_children.ensures)
    p
    (omega (arith, c.node_count-v-end.ensures))
