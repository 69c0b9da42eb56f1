pub mod Cores
pub mod Entering
pub mod Standings
