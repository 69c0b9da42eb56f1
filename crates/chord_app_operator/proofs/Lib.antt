pub mod Circles
pub mod Digits
pub mod JsonLaws
pub mod Lines
pub mod Members
pub mod Objects
pub mod Shown
pub mod Tales
