pub mod Codes
pub mod Digits
pub mod Growth
pub mod Parting
