pub mod Parts
pub mod Pushes
