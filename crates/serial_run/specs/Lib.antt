-- The libraries whose words crates above name through this one.
pub use Rattle.serial_steps.specs.core_objects as core_objects
pub use Rattle.start_faults.specs.core_reports as core_reports
pub use Rattle.start_faults.specs.core_rows as core_rows
pub mod Answers
pub mod Exchanges
pub mod Inputs
pub mod Kept
pub mod Most
pub mod Sessions
pub mod Worlds
pub mod Commands
pub mod Report
pub mod Does
pub mod Runs
pub mod Texts
