pub mod Guesses
pub mod LastKeys
