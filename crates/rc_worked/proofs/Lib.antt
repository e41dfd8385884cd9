pub mod Scenarios
pub mod Dropping
pub mod Spelling
