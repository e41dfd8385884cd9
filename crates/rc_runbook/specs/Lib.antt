pub mod Runbook
pub mod Healing
