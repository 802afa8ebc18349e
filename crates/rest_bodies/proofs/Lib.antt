pub mod Counted
pub mod FirstBad
pub mod Found
pub mod Spelled
pub mod Removed
pub mod Slashes
