pub mod Devices
pub mod Loader
pub mod Reading
