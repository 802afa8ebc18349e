pub mod Background
pub mod Drafted
pub mod Inside
pub mod InsideBackground
pub mod Keys
pub mod Steps
