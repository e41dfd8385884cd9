pub mod Operations
pub mod Linearizable
pub mod Evidence
pub mod Pending
pub mod Matching
