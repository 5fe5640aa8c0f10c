-- Defines when windows and messages are consistent with a source and a target, and when two peers are consistent.
pub mod Ties
