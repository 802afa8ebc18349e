pub mod AllProjects
pub mod Counting
pub mod Limited
pub mod OneProject
pub mod Pools
pub mod Sums
pub mod Within
