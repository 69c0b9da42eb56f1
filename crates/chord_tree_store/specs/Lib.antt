pub mod ValueSet
pub mod Slot
pub mod Slots
pub mod Shelf
pub mod Copied
