pub mod Forbids
pub mod Policies
pub mod Words
