pub mod Targets
pub mod Posts
pub mod Positions
pub mod Ends
pub mod Alone
pub mod Laws
pub mod StandLaws
pub mod AloneLaws
