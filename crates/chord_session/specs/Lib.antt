pub mod SessionState
pub mod Session
