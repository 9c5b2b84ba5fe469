pub mod Numbers
pub mod Places
pub mod EventLines
pub mod History
pub mod Lines
pub mod ReadBack
pub mod Laws
