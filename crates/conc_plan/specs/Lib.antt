pub mod Entering
pub mod Faults
