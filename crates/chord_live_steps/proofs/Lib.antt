pub mod Coming
pub mod Counting
pub mod Hearing
pub mod Sending
pub mod Submitting
pub mod Waiting
pub mod GivingUp
pub mod Judging
