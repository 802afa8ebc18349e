pub mod Opening
pub mod Greetings
pub mod Columns
pub mod Frames
