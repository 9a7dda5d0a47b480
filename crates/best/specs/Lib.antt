-- The level of gains at which the second plans of a run stop
pub mod CellsLevel
-- Marks laid from the cells: of a run, of a node's children, of all nodes; and what the contracts of lay cite
pub mod LayChoices
pub mod LayChosen
pub mod LayContracts
