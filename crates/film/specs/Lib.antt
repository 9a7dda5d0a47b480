-- What the decoder's code is written against.
pub mod Decoded
pub mod DecodeTable
pub mod DecodeMarks
