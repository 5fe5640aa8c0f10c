-- The output of a command has its guarantee: a file for each command.
pub mod Restore
pub mod Replicate
pub mod Sync
