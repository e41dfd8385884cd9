pub mod Wholes
pub mod Leavings
pub mod Whose
pub mod Marks
pub mod Firsts
