-- The libraries whose words crates above name through this one.
pub use Rattle.core_rows.specs.core_judging as core_judging
pub use Rattle.core_rows.specs.core_reports as core_reports
pub use Rattle.core_rows as core_rows
pub mod Starts
