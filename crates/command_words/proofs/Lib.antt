pub mod Digits
pub mod Making
pub mod Parsing
pub mod RunReading
pub mod RunGiven
pub mod ServeGiven
