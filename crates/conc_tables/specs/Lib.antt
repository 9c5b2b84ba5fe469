pub mod Gathered
pub mod Rows
pub mod Tables
