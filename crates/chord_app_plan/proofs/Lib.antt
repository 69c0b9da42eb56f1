pub mod Tables
pub mod Digits
pub mod Counts
pub mod Files
