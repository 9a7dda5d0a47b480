-- The column of a child
pub mod ColumnSweeps
pub mod ColumnRuns
-- The columns and figures of nodes
pub mod NodeColumns
pub mod NodeGains
