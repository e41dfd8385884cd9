pub mod Appended
pub mod InOrder
pub mod Covered
pub mod Forks
pub mod Depths
pub mod Changes
