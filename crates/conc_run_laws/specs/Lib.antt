pub mod Lives
pub mod Next
pub mod Grown
pub mod Moments
