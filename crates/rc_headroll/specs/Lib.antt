pub mod Counts
pub mod LogData
pub mod Soundness
pub mod Advancing
pub mod Places
pub mod Before
pub mod Watching
pub mod Alive
