pub mod Pairs
pub mod Spaces
