pub mod Seen
pub mod Scenes
pub mod Actors
pub mod Later
pub mod Views
pub mod Rings
pub mod Shown
