pub mod Columns
pub mod Lanes
pub mod Marks
pub mod Names
pub mod Parts
pub mod Rows
pub mod Steps
pub mod Timeline
