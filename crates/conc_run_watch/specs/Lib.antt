pub mod Crews
pub mod Lines
pub mod Looks
pub mod Watches
