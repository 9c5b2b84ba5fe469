pub mod Arrays
pub mod Faults
pub mod Fields
pub mod Forms
pub mod Kinds
pub mod Reads
