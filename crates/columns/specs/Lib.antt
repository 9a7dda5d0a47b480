-- Entries of a node's children as cells: a count, a rest and the length of a run, in blocks of words
pub mod Cells
pub mod CellsArrays
-- Runs: their sums, and the second plans that they take
pub mod CellsSums
pub mod CellsRun
-- Nodes: the columns of a node's children, and its figures
pub mod CellsNode
pub mod CellsPlan
