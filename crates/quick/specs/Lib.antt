-- What the contracts of the quick planners cite
pub mod Rightmost
