pub mod Changes
pub mod Devices
pub mod Entries
pub mod Settings
