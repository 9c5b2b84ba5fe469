pub mod Passes
pub mod Within
pub mod Unchanged
pub mod InLife
pub mod Around
pub mod Widening
pub mod Members
