-- The libraries whose words crates above name through this one.
pub use Rattle.core_objects.specs.core_judging as core_judging
pub use Rattle.core_objects as core_objects
pub use Rattle.core_objects.specs.core_reports as core_reports
pub use Rattle.core_objects.specs.core_rows as core_rows
pub mod Waits
pub mod Ways
