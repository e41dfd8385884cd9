pub mod Numbers
pub mod Commands
pub mod Asking
