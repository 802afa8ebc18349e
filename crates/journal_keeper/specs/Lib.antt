pub mod Texts
pub mod Chain
pub mod Keeping
pub mod History
