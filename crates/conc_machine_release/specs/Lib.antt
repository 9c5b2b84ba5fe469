pub mod Candidates
pub mod Lets
pub mod Refresh
pub mod Rivals
pub mod Forced
pub mod Renewal
pub mod Starts
