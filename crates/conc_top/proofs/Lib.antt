pub mod Meaning
pub mod Ending
pub mod Called
