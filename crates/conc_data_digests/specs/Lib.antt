pub mod Stamps
pub mod Inputs
pub mod Files
pub mod Sources
pub mod Taken
