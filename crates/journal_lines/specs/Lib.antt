pub mod Texts
pub mod Members
pub mod Lists
pub mod Leafs
pub mod Entries
pub mod Docs
