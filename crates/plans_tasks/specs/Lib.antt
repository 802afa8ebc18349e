pub mod Planned
pub mod Begun
