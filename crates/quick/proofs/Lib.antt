-- Rightmost: the children of a node, one a turn; the nodes, one a turn
pub mod RightmostRuns
pub mod RightmostNodes
-- Depth-first: the turn of a node
pub mod DepthTurns
