pub mod Successors
pub mod PeerList
pub mod Fingers
pub mod NodeLinks
