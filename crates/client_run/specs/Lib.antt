pub mod Laws
pub mod Receiving
pub mod Sessions
pub mod Talks
