pub mod Made
pub mod Numberings
