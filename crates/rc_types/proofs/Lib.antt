pub mod Maps
pub mod Places
