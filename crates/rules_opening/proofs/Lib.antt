pub mod Limits
pub mod Refused
pub mod Spelled
pub mod Steps
