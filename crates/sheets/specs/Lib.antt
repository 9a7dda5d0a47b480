-- What the printer's code is written against.
pub mod Lines
pub mod LayoutSheets
