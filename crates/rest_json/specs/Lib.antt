pub mod Ids
pub mod Objects
pub mod Settings
pub mod Moments
pub mod Words
pub mod Operations
pub mod Views
