pub mod FieldSpelling
pub mod Parts
pub mod FieldReading
pub mod Spelling
pub mod Rows
pub mod Reading
pub mod Sizes
pub mod Tags
