pub mod Moves
pub mod Series
pub mod Refusing
pub mod Script
pub mod Kept
pub mod Written
