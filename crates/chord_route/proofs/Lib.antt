pub mod Counting
pub mod FewForwards
pub mod Least
pub mod Nearing
pub mod NextHop
pub mod Settled
