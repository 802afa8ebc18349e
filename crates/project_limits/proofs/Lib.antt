pub mod Roots
pub mod PoolKeys
mod Unlimited
