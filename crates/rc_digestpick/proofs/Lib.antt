pub mod First
pub mod Clauses
