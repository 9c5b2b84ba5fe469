pub mod Rule
pub mod Lane
pub mod Rooms
pub mod Lanes
pub mod Puts
pub mod Laws
