pub mod Roots
pub mod Effects
pub mod Reports
pub mod ModelHost
