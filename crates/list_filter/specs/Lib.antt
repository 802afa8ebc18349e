pub mod Laws
pub mod Taking
pub mod Urls
pub mod Values
