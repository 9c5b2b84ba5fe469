pub mod Indexes
pub mod StandsFor
pub mod Taken
pub mod LifeReadings
