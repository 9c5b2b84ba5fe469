pub mod Words
pub mod Saying
