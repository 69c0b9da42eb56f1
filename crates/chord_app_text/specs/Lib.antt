pub mod Digits
pub mod Ends
pub mod Words
