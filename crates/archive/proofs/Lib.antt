pub mod SameBytes
pub mod Reading
