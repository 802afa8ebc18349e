pub mod States
pub mod Plans
pub mod Numbers
