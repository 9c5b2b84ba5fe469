pub mod Joined
pub mod Fields
pub mod Names
pub mod Rows
pub mod OneTable
