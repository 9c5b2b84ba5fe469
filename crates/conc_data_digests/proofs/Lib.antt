pub mod Counting
mod Messages
