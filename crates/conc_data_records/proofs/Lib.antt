pub mod Fuel
pub mod Steps
