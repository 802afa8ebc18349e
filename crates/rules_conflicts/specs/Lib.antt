pub mod Deeds
pub mod Protected
pub mod Users
