pub mod Rules
pub mod Passes
pub mod Rooms
pub mod Numbered
pub mod LetsLeft
pub mod LetsRoom
pub mod Lists
pub mod Puts
