pub mod Words
pub mod Places
pub mod LeadStates
pub mod Doings
pub mod Reports
pub mod Rule
pub mod Steps
pub mod Courses
