pub mod Tables
pub mod BackupLemmas
pub mod Networks
pub mod NamedLemmas
pub mod ReplicationLemmas
pub mod Covering
pub use Tables.{at_of, deny_one, differ, has_at, names_apart, one_inserted, one_updated, peer_of, state_one, still_both, still_there, two_updated}
pub use Tables.{index_added, index_none, lawful_of, refuses_is}
pub use Networks.{added_step, backed_is, backed_step, empty_consistent, is_added, no_peers, own_uuid, restore_step, restore_uuid, tied_pair}
pub use BackupLemmas.{copies_of-append, copy_refused, lookup-among}
pub use NamedLemmas.{changes, edit_gives, load_gives, restore_gives, same_Ok, stays, stored, stored_written, writes_of}
pub use ReplicationLemmas.{alone_refused, plan_apart, run_apart, run_denied, run_refused, state_left, stored_both, watched_refused}
pub use Covering.{Brings, accounts, alone_between, alone_brings, alone_fails, brings_meet, brought, pool_between, pool_brings, pool_fails, watched_between, watched_brings, watched_fails}
