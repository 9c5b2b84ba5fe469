pub mod Kept
pub mod Going
pub mod Lined
pub mod Whole
