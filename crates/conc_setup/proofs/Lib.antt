pub mod Distinct
pub mod Each
pub mod Goods
pub mod Kept
pub mod Looked
pub mod Outcomes
pub mod Passes
pub mod Proven
