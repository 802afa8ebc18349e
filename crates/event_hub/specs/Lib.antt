pub mod Contents
pub mod Hubs
pub mod Recent
pub mod Short
pub mod ShortTexts
pub mod Slots
pub mod Telling
