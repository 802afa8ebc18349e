mod Cut
pub mod ForClients
pub mod Linking
pub mod Printing
pub mod Splitting
