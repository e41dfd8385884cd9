pub mod Parts
pub mod Reading
pub mod Fields
pub mod Bodies
pub mod Events
pub mod Claims
