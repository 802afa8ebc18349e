pub mod Typed
pub mod Together
pub mod Contents
