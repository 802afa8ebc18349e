pub mod Digests
pub mod Expected
