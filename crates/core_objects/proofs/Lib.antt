pub mod FirstRules
pub mod ObjectChanges
pub mod ReadSteps
