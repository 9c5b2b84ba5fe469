pub mod Prefixes
pub mod Surviving
pub mod Lives
pub mod Adding
