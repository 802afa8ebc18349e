pub mod Headers
pub mod Silent
