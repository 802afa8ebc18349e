-- The libraries whose words crates above name through this one.
pub use Rattle.gates.specs.core_turns as core_turns
pub use Rattle.gates as gates
pub mod Moments
pub mod Replying
pub mod Waits
pub mod Work
pub mod Accepting
pub mod SubscriptionExamples
pub mod Filters
pub mod Subscriptions
pub mod FrameExamples
pub mod ClientFrames
pub mod Frames
pub mod Sources
pub mod Leave
pub mod Listening
pub mod Sending
pub mod Sessions
pub mod Connections
pub mod Serving
pub mod Texts
