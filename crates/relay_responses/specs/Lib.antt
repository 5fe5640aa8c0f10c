pub mod Read
pub mod Pages
pub mod Diffs
pub mod Logs
pub mod Responses
pub mod Parsed
pub mod Maps
