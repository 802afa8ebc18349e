pub mod Entries
pub mod MapKeeper
pub mod Places
pub mod Store
