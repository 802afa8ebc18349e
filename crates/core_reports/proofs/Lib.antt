pub mod Begun
pub mod Comings
mod Completions
pub mod Failing
pub mod Handing
mod Powers
pub mod Reporting
mod Reports
pub mod Silent
pub mod Stores
mod Successes
pub mod Turning
pub mod Writable
