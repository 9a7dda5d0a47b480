pub mod EditionWord
pub mod Tests
pub mod Turns
