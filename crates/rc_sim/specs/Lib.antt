pub mod Failures
pub mod Verdicts
pub mod Written
pub mod Statuses
pub mod Histories
