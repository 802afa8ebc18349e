pub mod Values
pub mod Program
pub mod Words
pub mod Examples
