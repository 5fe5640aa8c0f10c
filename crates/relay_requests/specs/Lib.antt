pub mod Words
pub mod Bodies
pub mod Logs
pub mod Kept
pub mod Notices
pub mod Requests
