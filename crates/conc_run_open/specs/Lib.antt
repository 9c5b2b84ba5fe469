pub mod Extents
pub mod Refusals
pub mod Examined
pub mod Opening
pub mod Listing
pub mod Texts
pub mod Scripts
pub mod Starting
