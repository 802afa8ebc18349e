pub mod Rules
pub mod Entries
