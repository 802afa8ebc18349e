pub mod Members
pub mod Puts
pub mod Edits
pub mod Firsts
pub mod Rings
