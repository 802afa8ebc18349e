mod Backgrounds
mod Backs
pub mod Entering
mod Fitting
mod Handed
mod HeldAside
mod Logs
mod Orders
mod Risen
mod Rooms
mod Settled
mod Slashes
