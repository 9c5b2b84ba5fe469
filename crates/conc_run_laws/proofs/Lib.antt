pub mod Added
pub mod Interrupts
pub mod Starts
pub mod RightLives
pub mod Crashed
pub mod Ended
pub mod Growing
pub mod Moments
