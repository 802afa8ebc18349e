-- The libraries whose words crates above name through this one.
pub use Rattle.core_judging as core_judging
pub use Rattle.core_judging.specs.core_reports as core_reports
pub mod Asked
pub mod Cancels
pub mod Counted
pub mod EstateView
pub mod Opening
pub mod Planned
pub mod View
