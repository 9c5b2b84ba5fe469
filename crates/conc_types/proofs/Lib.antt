pub mod Decimals
pub mod Keeping
pub mod Pieces
pub mod Places
