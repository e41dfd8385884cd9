pub mod Beginning
pub mod Lawful
pub mod Digits
pub mod Repeating
pub mod Choices
pub mod EachKind
pub mod Promises
