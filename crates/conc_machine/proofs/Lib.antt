pub mod Frames
pub mod Passes
pub mod Rest
pub mod States
pub mod Undone
pub mod Order
pub mod Lives
