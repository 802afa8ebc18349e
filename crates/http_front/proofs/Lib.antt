pub mod KnownLemmas
pub mod StreamLemmas
pub mod ReadLemmas
pub mod StepLemmas
pub mod LeaveLemmas
