pub mod Starts
pub mod Updates
