pub mod Within
pub mod Lowest
pub mod Alone
