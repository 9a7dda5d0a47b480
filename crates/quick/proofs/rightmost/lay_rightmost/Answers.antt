use Rattle.std.proofs.Common.{refl}
use Rattle.quick.proofs.RightmostNodes.{settled_start}
use Rattle.quick.proofs.rightmost.lay_rightmost.Goals as goal

pub loop-v-init : goal.loop-v-init
loop-v-init c = rw c.node_count-v.ensures (settled_start _ c.link_before-before.ensures refl refl refl c.requires)
