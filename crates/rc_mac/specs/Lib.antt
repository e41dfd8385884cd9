pub mod Mac
