pub mod Additions
pub mod Coming
pub mod Departures
pub mod Gathering
pub mod Looked
pub mod Places
pub mod Relinked
