pub mod Fields
pub mod Finding
pub mod Headers
pub mod Image
pub mod Layout
pub mod Laws
