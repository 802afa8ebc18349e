pub mod Doors
pub mod Jobs
pub mod Servers
