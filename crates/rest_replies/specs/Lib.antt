pub mod Refusals
pub mod Chosen
pub mod Replies
pub mod Tags
pub mod Notices
pub mod WordExamples
