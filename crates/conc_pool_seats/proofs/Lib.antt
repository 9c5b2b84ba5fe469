pub mod Facts
pub mod Moves
pub mod LeadSteps
pub mod HandSteps
pub mod Seats
