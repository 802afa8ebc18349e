pub mod Asked
pub mod Bytes
pub mod Lasts
pub mod Links
pub mod Told
pub mod Texts
pub mod Writing
