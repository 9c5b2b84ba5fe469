pub mod Joined
pub mod Done
