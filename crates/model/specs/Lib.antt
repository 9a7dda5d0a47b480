-- The definitions of documents 01 and 02, a module for each heading.
pub mod Basics
pub mod Table
pub mod Leaf
pub mod Plan
pub mod Runs
pub mod Steps
pub mod Archive
pub mod Decimal
pub mod Sheets
pub mod Prices
pub mod Refusals
pub mod Demand
pub mod Cases
