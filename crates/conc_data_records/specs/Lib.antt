pub mod Records
pub mod Unread
