pub mod Store
pub mod Leaders
pub mod Claims
pub mod OfLeaders
pub mod Worked
