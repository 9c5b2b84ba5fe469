pub mod Documents
pub mod FirstPass
pub mod Lines
pub mod Places
pub mod SecondPass
pub mod Setups
pub mod ThirdPass
