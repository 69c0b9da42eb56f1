pub mod Course
pub mod Hops
pub mod IdealRing
pub mod Network
