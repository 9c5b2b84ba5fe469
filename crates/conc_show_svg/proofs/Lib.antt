pub mod Chains
pub mod Clear
pub mod Parts
pub mod Plain
