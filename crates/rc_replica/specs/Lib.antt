pub mod Laws
pub mod Sizes
pub mod HeldAfter
pub mod HeldSizes
