pub mod Table
pub mod Listing
