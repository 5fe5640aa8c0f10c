pub mod Faults
pub mod Frames
pub mod Inbox
pub mod Options
pub mod Runs
pub mod Status
