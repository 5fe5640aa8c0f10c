-- The modules `Logs` and `Checkpoint` define the logs of a peer, and the common checkpoint of two logs.
pub mod Logs
pub mod Checkpoint
