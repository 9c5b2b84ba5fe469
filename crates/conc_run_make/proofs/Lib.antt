pub mod Joined
pub mod Accepting
pub mod Underway
