pub mod ManagerOf
pub mod PlacesHad
pub mod Reported
pub mod StepsMade
