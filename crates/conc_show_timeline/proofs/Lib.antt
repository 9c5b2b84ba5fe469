pub mod Columns
pub mod Parts
pub mod Readable
pub mod Words
