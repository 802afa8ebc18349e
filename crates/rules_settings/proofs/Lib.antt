mod AtHome
pub mod Naming
