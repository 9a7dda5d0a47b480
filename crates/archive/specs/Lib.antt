-- What the reader's code is written against.
pub mod Room
pub mod Answers
pub mod Parts
pub mod Opened
