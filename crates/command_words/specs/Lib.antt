pub mod Commands
pub mod Numbers
pub mod RowsPaths
pub mod Values
pub mod RunWords
pub mod RunExamples
pub mod ServeWords
pub mod ServeExamples
