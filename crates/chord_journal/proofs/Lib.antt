pub mod Spelling
pub mod Loads
pub mod Readings
pub mod Commands
