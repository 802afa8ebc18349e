-- The libraries whose words crates above name through this one.
pub use Rattle.start_faults as start_faults
pub mod JournalFiles
pub mod Questions
pub mod RowsKeepers
pub mod Closing
