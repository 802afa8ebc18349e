pub mod Joined
pub mod Keys
pub mod Lookups
pub mod Patches
pub mod Places
pub mod Puts
pub mod Roots
pub mod Walks
