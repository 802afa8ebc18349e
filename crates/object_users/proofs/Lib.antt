pub mod AtHome
mod Sorting
mod Idle
