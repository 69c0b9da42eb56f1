pub mod News
pub mod Asking
pub mod Answering
pub mod Words
pub mod Transactions
pub mod Connections
pub mod Stored
pub mod Waiting
