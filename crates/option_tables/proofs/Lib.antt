pub mod Alone
mod Begun
pub mod Firsts
