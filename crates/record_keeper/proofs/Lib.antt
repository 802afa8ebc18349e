pub mod Listed
pub mod Lookups
pub mod Ordered
