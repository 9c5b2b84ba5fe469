pub mod Accepted
pub mod Calendars
pub mod Dates
pub mod Days
pub mod Numbers
pub mod Parts
pub mod Spellings
pub mod Years
