pub mod Members
pub mod Responses
pub mod Pages
pub mod Refusals
pub mod Infos
pub mod Stored
