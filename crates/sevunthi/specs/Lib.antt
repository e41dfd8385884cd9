pub mod Held
pub mod Numbers
pub mod Shown
