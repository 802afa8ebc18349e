pub mod Apart
pub mod Checks
pub mod Faults
pub mod Forms
pub mod Names
pub mod Tables
