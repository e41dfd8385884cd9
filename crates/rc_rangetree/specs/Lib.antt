pub mod Nodes
pub mod Points
pub mod Ranges
pub mod Refusals
pub mod Trees
