pub mod Leaving
pub mod Places
pub mod Serving
pub mod Working
