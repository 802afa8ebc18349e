pub mod Comparing
pub mod Found
pub mod Leading
pub mod Meant
pub mod Steps
