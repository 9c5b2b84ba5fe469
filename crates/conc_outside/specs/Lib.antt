pub mod Counts
pub mod Files
pub mod Reads
pub mod Taken
pub mod Exposed
pub mod Writes
