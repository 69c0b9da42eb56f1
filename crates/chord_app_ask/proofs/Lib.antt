pub mod Asking
pub mod Buckets
pub mod Joined
