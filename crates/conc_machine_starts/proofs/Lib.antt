pub mod Ranges
pub mod Counts
pub mod Owners
pub mod Places
pub mod LeastTurns
pub mod NoStarts
pub mod Writes
pub mod Alike
