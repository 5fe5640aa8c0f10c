pub mod LoadLemmas
pub mod ReplicateLemmas
pub mod trust
pub use LoadLemmas.{loads, loads_drawn, loads_named, loads_taken, refused_either, there_told}
pub use ReplicateLemmas.{replicated, replicates, too_late, unchosen}
pub use trust.Replicate.{reports_covered}
pub use trust.Restore.{restores_known}
pub use trust.Sync.{AreTurned, sync_turned, syncs_met}
