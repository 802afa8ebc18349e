pub mod Legs
pub mod Rows
pub mod Lines
pub mod Steps
pub mod Runs
pub mod Laws
