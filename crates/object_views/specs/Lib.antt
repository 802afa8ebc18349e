pub mod Limited
pub mod Statuses
