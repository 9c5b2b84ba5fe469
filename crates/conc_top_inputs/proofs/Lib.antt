pub mod FileFailing
pub mod Acceptance
pub mod Digesting
