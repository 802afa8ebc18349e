-- The libraries whose words crates above name through this one.
pub use Rattle.core_totals.specs.core_reports as core_reports
pub use Rattle.core_totals as core_totals
pub mod Before
pub mod Commits
pub mod Judged
