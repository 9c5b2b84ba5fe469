pub mod Given
pub mod Refusals
pub mod Fails
pub mod Ways
pub mod FileFails
pub mod Reading
pub mod Accepting
