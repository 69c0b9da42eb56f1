pub mod Asked
pub mod Dumping
pub mod Faults
pub mod Pages
pub mod Telling
