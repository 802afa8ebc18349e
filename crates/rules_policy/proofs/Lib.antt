mod Below
mod OwnRows
pub mod Judged
pub mod Unrestricted
