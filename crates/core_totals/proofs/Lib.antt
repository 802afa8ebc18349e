pub mod Own
pub mod Named
mod Counts
mod Policy
pub mod Pools
pub mod Limits
pub mod Alone
mod Asked
pub mod NewProfiles
mod Others
pub mod OneProject
pub mod Renamed
pub mod Usage
pub mod Successes
pub mod Told
pub mod Shares
pub mod Few
pub mod Turns
