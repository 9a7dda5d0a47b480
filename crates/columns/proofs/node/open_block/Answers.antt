use Rattle.std.proofs.Common.{arith}
use Rattle.columns.proofs.NodeColumns.{open_turn}
use Rattle.columns.proofs.node.open_block.Goals as goal

pub loop-s-preserved : goal.loop-s-preserved
loop-s-preserved c = open_turn _ _ _ _ c.loop-s.invariant (omega arith) c.requires.1
