pub mod Facts
pub mod Csv
pub mod Json
