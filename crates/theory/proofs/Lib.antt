-- Laws that rest on statements which must-fail edits make false.
-- The archive
pub mod ArchiveBack
pub mod ArchiveAnswers
-- Prices
pub mod PricePages
-- What the entries promise: the demands
pub mod PromisePlanner
pub mod ArchiveLowest
pub mod PromiseArchive
pub mod PromiseConvert
pub mod PromiseSheets
pub mod PromisePrice
