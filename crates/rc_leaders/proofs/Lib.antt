pub mod Records
pub mod Simulated
pub mod Others
pub mod Leading
pub mod OfLeaders
pub mod Run
