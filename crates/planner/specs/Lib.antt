-- What the planners' contracts cite.
pub mod Planners
