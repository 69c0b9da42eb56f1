pub mod Asked
pub mod Gaps
pub mod Idle
pub mod Losses
pub mod Settling
pub mod Showing
pub mod Together
pub mod Trying
