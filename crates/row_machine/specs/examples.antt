pub mod Scenes
pub mod Worked
pub mod Openings
pub mod Faults
