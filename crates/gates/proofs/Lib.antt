pub mod Telling
pub mod Histories
pub mod Walking
pub mod Answering
mod Idling
mod Awaiting
