pub mod Losing
pub mod Concerned
pub mod Resting
pub mod States
pub mod Lists
