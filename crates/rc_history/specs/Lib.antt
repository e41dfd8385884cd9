pub mod Nodes
pub mod Events
pub mod Apart
pub mod Claims
pub mod Remade
pub mod Lives
pub mod Processes
pub mod LifeClaims
