pub mod Fields
pub mod Heads
pub mod Limits
pub mod Messages
pub mod Readings
pub mod Search
pub mod Upgrades
