pub mod Civil
pub mod Clocks
pub mod Memory
