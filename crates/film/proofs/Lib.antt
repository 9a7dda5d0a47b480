pub mod Passes
pub mod Tests
