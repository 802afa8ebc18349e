pub mod Statuses
pub mod Urls
pub mod Notices
pub mod Views
