pub mod Letters
pub mod Node
pub mod World
pub mod Stock
pub mod Headline
pub mod Uses
