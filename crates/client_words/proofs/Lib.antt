pub mod Given
pub mod Good
