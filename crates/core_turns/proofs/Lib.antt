mod Holding
mod Ordered
mod Server
mod ShortKept
mod Turning
mod Workers
pub mod After
pub mod Apart
pub mod Aside
pub mod Shortness
pub mod Telling
