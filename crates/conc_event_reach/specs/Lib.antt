pub mod Spans
pub mod Reach
pub mod Started
pub mod Widened
