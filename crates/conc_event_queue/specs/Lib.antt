pub mod Least
pub mod Tournament
pub mod Turns
pub mod Written
pub mod Laws
