pub mod Beginnings
pub mod MapLemmas
pub mod HeldLemmas
