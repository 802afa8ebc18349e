pub mod Searches
pub mod Types
