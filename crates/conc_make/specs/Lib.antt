pub mod Draws
pub mod Files
pub mod Accepted
