pub mod Computed
pub mod Dates
pub mod Meanings
pub mod Named
pub mod Parts
pub mod Sets
pub mod Texts
