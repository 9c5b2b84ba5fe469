pub mod FactSteps
pub mod Passes
pub mod Flags
pub mod AllFacts
pub mod NextState
pub mod NoEvents
