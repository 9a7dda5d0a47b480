pub mod Fields
pub mod Placed
pub mod LinePlaces
pub mod Printing
