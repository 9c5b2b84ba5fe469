pub mod Numbers
pub mod Fresh
pub mod Same
pub mod Alike
pub mod Written
pub mod Firsts
