pub mod Load
pub mod Edit
pub mod Failing
pub mod Replicate
pub mod Backup
pub mod Restore
pub mod Sync
pub use Load.{LoadAsk, LoadsAt, LoadsLoud, LoadsNamed, LoadsNew, LoadsUntaken, NamedLoad, load_new, load_there, made_line, put_line, there_line}
pub use Edit.{EditAsk, EditsLoud, edit_done, edited_line}
pub use Failing.{Fails, FailsAlone, FailsInPool, FailsRestoring}
pub use Replicate.{CoversIfDone, EndsBy, IsCovered, IsCoveredBy, IsDone, MayFail, ReplicateAsk, StopsIfAsked, ReplicatesChosen, ReplicatesFound, ReportsReplication, both_of, ending_line}
pub use Replicate.{ending_of, ending_of_run, ending_of_watched, last_second, moment_of, plan_of, plan_with, replicate_asked, replicated_text}
pub use Replicate.{session_of, with_drawn, with_session}
pub use Backup.{BacksUp, BackupAsk, backed_line, backup_asked, backup_done}
pub use Restore.{IsRestored, RestoreAsk, Restores, restore_done, restored_line}
pub use Sync.{IsMet, SyncAsk, Syncs}
pub use declared.replicate.Ending.{Ending}
