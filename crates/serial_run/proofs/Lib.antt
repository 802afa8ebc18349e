pub mod Along
mod Answering
pub mod Quiet
pub mod Served
pub mod Turning
pub mod Whole
pub mod Drilled
pub mod Books
pub mod Beginning
pub mod Others
mod StepsMade
pub mod Tops
mod Denying
mod Keeping
