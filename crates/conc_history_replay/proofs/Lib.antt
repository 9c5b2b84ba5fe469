pub mod ByKind
pub mod OneAlone
pub mod OfSets
pub mod OfCommands
