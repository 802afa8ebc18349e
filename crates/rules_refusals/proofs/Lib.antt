pub mod Chains
pub mod Loops
pub mod RowsPut
pub mod Saying
