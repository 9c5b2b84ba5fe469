pub mod FirstBad
pub mod Need
pub mod Machines
