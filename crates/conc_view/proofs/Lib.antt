pub mod Beginnings
pub mod AddOne
pub mod Seated
pub mod Replayed
pub mod Counted
