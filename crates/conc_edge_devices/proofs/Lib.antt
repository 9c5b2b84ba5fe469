mod Begun
mod Called
mod Changes
mod Grown
mod Moments
mod Walk
