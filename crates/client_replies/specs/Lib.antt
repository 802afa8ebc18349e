pub mod Fields
pub mod Forms
pub mod Heads
pub mod Limits
pub mod Metadata
pub mod Replies
