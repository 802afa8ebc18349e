mod Changed
mod KnownTotals
mod FirstEntries
pub mod Following
pub mod Judging
pub mod Opened
mod Opens
mod Silent
pub mod Started
pub mod Stepping
mod Stops
