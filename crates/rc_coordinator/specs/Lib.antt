pub mod Book
pub mod View
pub mod Steps
pub mod Grants
pub mod GrantTables
pub mod Recovering
pub mod Asked
