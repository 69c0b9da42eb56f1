pub mod Nodes
pub mod Numbered
pub mod NodeLemmas
pub mod CallerLemmas
mod Invariant
mod Growth
mod CallerSteps
mod Contents
mod NodeSteps
mod Execution
mod Main
pub mod Totals
mod Channels
pub mod Events
mod Whole
mod Kept
pub mod Placed
pub mod Clash
pub mod Stocking
pub mod Stocked
pub mod Fitting
mod Theorem
mod HolderTie
mod HistoryProof
mod SeenFirst
mod Merely
mod Example
mod EveryRule
mod TwoParts
