pub mod Silent
pub mod Noted
