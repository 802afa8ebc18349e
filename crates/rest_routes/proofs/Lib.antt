pub mod Matching
pub mod Names
pub mod Rows
pub mod Taken
pub mod Timeouts
mod Events
pub mod Server
mod ByFilter
mod ByGet
mod FormedBodies
mod FormedCommands
mod FormedOrigins
mod FormedProfiles
mod FormedRequests
mod FormedSettings
mod Hosts
mod InPlain
pub mod Passing
