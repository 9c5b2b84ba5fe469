pub mod Leaving
pub mod Same
