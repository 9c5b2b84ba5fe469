pub mod Changes
pub mod Entries
