pub mod Clock
pub mod Actions
pub mod Fields
pub mod Lines
pub mod Orders
pub mod Readings
pub mod Rules
pub mod Script
