pub mod Vacant
pub mod Tournaments
pub mod Maps
pub mod LeastOf
pub mod Firsts
pub mod LeastTurns
