-- The libraries whose words crates above name through this one.
pub use Rattle.core_reports as core_reports
pub mod Alone
pub mod NewProfile
pub mod OneProject
pub mod Ends
pub mod Totals
