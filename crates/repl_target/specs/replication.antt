-- Defines replication in one direction and in both directions.
pub mod Replication
pub mod Expected
pub mod Calls
pub mod Leaves
pub mod Sync
