pub mod Pointed
pub mod Sought
