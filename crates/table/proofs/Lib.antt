pub mod Pending
pub mod Linking
pub mod Told
