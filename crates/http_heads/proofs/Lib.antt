pub mod SearchLemmas
pub mod HeadLemmas
mod KeyLemmas
pub mod LengthLemmas
pub mod MessageLemmas
pub mod LeaveLemmas
pub mod DecisionLemmas
pub mod ReadingLemmas
