-- The scratch before the first node
pub mod NodeStart
-- The marks: of a run, of a node's children, of all nodes
pub mod LaySums
pub mod LayRuns
pub mod LayMarking
pub mod LayNode
pub mod LayAll
