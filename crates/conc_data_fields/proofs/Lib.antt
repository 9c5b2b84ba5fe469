pub mod Combined
pub mod FirstWrong
pub mod Items
pub mod Known
pub mod Proven
mod Least
