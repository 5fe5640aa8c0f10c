-- The guarantees for the output of read-only commands.
pub mod Audit
