pub mod ReadBack
pub mod Records
pub mod Sizes
pub mod Fields
pub mod Accepted
