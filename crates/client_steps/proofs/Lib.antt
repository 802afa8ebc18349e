pub mod RowLemmas
pub mod RunLemmas
pub mod CommandRuns
pub mod GoodRuns
