pub mod Footprints
pub mod Loads
pub mod PoolLimits
pub mod Lent
pub mod Rising
pub mod Counted
pub mod Layered
