pub mod Counts
pub mod Slots
pub mod Accepts
pub mod Passing
pub mod Serves
pub mod Troubles
