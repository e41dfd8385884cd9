mod Noted
mod TopNoted
mod PartsFound
mod Floats
mod Outlined
mod ListedCodes
pub mod Joined
mod Unentered
