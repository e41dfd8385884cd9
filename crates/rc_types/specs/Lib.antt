pub mod Carried
pub mod Codes
pub mod Counts
pub mod Kinds
pub mod Names
pub mod Ranges
pub mod Texts
