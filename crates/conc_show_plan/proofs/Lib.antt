pub mod EightFields
pub mod Listed
pub mod Submitted
pub mod Told
