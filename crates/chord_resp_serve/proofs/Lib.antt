pub mod Outputs
pub mod Steps
pub mod Sessions
pub mod Asks
pub mod Waits
pub mod Links
