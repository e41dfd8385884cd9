pub mod View
pub mod Order
pub mod Running
