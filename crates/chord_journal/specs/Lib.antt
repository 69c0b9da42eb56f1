pub mod Journal
pub mod Loading
