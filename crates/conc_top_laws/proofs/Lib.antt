pub mod Accepting
pub mod Printed
pub mod Ending
pub mod Completing
