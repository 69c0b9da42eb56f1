pub mod Clockwise
pub mod Padding
pub mod Skipping
