pub mod Countables
mod OwnRows
pub mod PoolTables
pub mod Serving
mod Summed
mod Tables
pub mod Unchanged
pub mod Unlimited
pub mod Unshared
