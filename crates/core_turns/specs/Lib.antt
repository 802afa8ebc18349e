-- The libraries whose words crates above name through this one.
pub use Rattle.core_instances.specs.core_judging as core_judging
pub use Rattle.core_instances.specs.core_objects as core_objects
pub use Rattle.core_instances.specs.core_reports as core_reports
pub use Rattle.core_instances.specs.core_rows as core_rows
pub mod Commands
pub mod Hearing
pub mod Opens
pub mod Server
pub mod Turns
pub mod View
pub mod Asides
pub mod ShortTasks
