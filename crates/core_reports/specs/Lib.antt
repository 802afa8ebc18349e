pub mod Entries
pub mod Jobs
pub mod Reported
pub mod Stores
pub mod Turns
pub mod Waiting
