pub mod Host
pub mod Policies
pub mod Spellings
pub mod States
pub mod Tables
