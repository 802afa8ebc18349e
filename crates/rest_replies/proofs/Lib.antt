mod Chosen
pub mod Plain
