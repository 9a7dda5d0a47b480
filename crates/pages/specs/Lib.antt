-- What the page program writes, and what the contracts of its functions cite.
pub mod Text
pub mod Listing
pub mod Written
