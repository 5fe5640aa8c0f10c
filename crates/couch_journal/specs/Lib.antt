pub mod Options
pub mod Tasks
pub mod Status
pub mod Runs
