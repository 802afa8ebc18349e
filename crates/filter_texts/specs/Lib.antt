pub mod Tokens
pub mod Grammar
pub mod Meaning
pub mod Reading
pub mod Places
pub mod Views
pub mod Worked
pub mod Spelling
