pub mod Crashed
pub mod Same
pub mod Telling
pub mod Whole
