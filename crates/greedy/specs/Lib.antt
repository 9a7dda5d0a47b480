-- What the contracts of single and pair cite.
pub mod Lent
pub mod Kept
pub mod SingleMembers
pub mod SingleSettled
pub mod SingleCuts
pub mod PairSides
pub mod PairMarks
