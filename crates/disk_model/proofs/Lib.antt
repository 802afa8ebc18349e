pub mod Bytes
pub mod Record
pub mod Moves
pub mod Mapped
pub mod Picks
