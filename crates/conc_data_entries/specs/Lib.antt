pub mod Entries
pub mod Managers
pub mod Named
pub mod Programs
pub mod Rules
pub mod Sets
pub mod Shifts
pub mod Tables
