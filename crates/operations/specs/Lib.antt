pub mod Limits
pub mod Statuses
pub mod OperationTable
pub mod Facts
pub mod Inside
