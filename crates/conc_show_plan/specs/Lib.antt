pub mod Lines
pub mod Fields
pub mod Listing
pub mod Submits
pub mod Plans
