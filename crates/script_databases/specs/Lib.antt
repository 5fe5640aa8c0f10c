pub mod Refusals
pub mod MadeIds
pub mod MadeIdsLaws
pub mod Databases
pub mod Replications
pub mod Stored
pub mod Consistent
pub use Refusals.{GivesOrMemory, base_refusal, log_refusal, name_of, run_stop_of, stop_of, target_refusal, told_as}
pub use Databases.{IsTaken, NamedBackupValue, Program, State, backed_answer, backed_at, backed_by, backed_of, backed_told, backup_among, backup_at}
pub use Databases.{changed_at, drawn_one, edited_answer, edited_as, edited_at, is_named, load_answer, loaded_at, next_made, no_databases, peer_at}
pub use Databases.{put_back_answer, put_back_by, put_back_of, text_cmp, with_backup, with_changed, with_peer}
pub use Replications.{KeepsTied, Nowhere, ReplicatesAlone, ReplicatesBetween, ReplicatesByPool, ReplicatesWatched, deny_refuses, unwatched}
pub use Replications.{with_both}
pub use Stored.{AllDeny, Beside, Entries, IsIndex, IsWithBoth, IsWithOne, beside_of, copies_of, deny_of, entry_at, peers_of, program_of, state_of}
pub use Consistent.{AccountsUpTo, AreLawful, CoversUpTo, IsConsistent, IsCopyOf, IsStored, MeetsAfter}
pub use declared.databases.Edited.{Edited}
pub use declared.refusal.Refusal.{Refusal}
pub use declared.watched.Watched.{Watched}
