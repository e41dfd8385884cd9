pub mod Fetching
pub mod Views
