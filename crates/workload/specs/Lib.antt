pub mod Stream
pub mod Summary
