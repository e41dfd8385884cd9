pub mod View
pub mod Claims
pub mod Looks
