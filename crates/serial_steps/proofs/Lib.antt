pub mod Turning
pub mod Requests
pub mod Lessening
pub mod Stepping
pub mod Making
pub mod Counting
