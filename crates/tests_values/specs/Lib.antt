pub mod Entries
pub mod Readers
pub mod Summaries
pub mod Tables
pub mod Values
