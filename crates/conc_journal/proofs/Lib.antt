mod Acknowledging
mod Added
mod Appended
mod Begins
mod Opening
mod Reading
pub mod Steps
mod Written
mod Stamping
mod Versions
