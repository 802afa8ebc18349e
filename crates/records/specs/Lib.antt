pub mod AnyRows
pub mod Forms
