pub mod Lookups
pub mod Terms
