pub mod Records
pub mod Opening
