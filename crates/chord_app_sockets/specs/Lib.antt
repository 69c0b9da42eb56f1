pub mod Ended
pub mod Until
pub mod Doors
