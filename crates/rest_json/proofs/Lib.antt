pub mod Calendar
pub mod Floatless
pub mod ReadBack
pub mod Rising
pub mod Walked
pub mod Gathered
pub mod ViewsPlain
