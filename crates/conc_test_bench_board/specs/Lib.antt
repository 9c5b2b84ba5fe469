pub mod Benches
pub mod Crews
pub mod Leads
