pub mod Guarded
pub mod Troubles
pub mod Changes
pub mod Entries
pub mod Kept
