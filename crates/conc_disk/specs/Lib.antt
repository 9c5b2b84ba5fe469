pub mod Disk
pub mod Left
