pub mod AtHome
pub mod Layered
pub mod LimitedPools
pub mod Lines
pub mod Ranges
pub mod Risen
pub mod SameNames
pub mod Small
pub mod Totals
mod OwnPools
mod Over
pub mod PoolLines
pub mod Parts
