pub mod Joined
pub mod Listed
