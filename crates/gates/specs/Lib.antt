-- The libraries whose words crates above name through this one.
pub use Rattle.serial_steps.specs.core_judging as core_judging
pub use Rattle.serial_steps.specs.core_rows as core_rows
pub use Rattle.serial_steps.specs.core_turns as core_turns
pub use Rattle.rest_answers as rest_answers
pub use Rattle.serial_steps as serial_steps
pub mod Chains
pub mod Gates
pub mod History
pub mod Answers
pub mod Moments
pub mod Alone
pub mod Bells
pub mod Times
pub mod Awaited
