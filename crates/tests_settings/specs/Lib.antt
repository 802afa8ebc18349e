pub mod DeviceOptions
pub mod Layers
pub mod Limits
pub mod Names
pub mod Options
pub mod Tables
