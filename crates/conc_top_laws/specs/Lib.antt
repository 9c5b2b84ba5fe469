pub mod Quiet
pub mod Accepted
pub mod Fitting
pub mod Completes
pub mod Complete
