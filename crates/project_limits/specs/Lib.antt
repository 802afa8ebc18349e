pub mod Admission
pub mod Countable
pub mod Instance
pub mod Limits
pub mod Pools
