-- What the code of the records is written against, and that of writer, decoder and reader above.
pub mod Size
pub mod Links
pub mod Counts
pub mod RecordsOf
