pub mod Audit
pub mod ties
pub mod replication
pub use Audit.{CoversFeed, CoversFeedOf, IsAudited, audit_answer, hole_at, hole_of}
pub use ties.Ties.{AreTiedBackups, AreTiedEntries, Asks, IsReached, IsSentEntry, IsTiedAsked, IsTiedEntry, IsTiedPair, IsTiedParcel, IsTiedSession}
pub use ties.Ties.{IsTiedWindow, IsTiedWith, KeepsOthersTied, LogsAreHonest, Names, StaysTied}
pub use replication.Calls.{AllFrom, Append, Begin, Call, Conclude, EachStored, Edit, IsFrom, IsGrown, IsLeft, IsPageOf, Load, Record, Settle, Stop}
pub use replication.Calls.{after_call, after_calls, after_some, most_settled, settled_of}
pub use replication.Expected.{IsExpected, StopsShort}
pub use replication.Leaves.{HasGrownBy, IsPut, Leaves}
pub use replication.Replication.{Carries, Closes, CoversFrom, IsEmpty, IsReported, PutsOver, Reading, Reads, ReadsAll, ReadsUntil, Replicates}
pub use replication.Replication.{SameDocument, SameDocuments, WindowRefused, after_begins, base_at, beginning_between, begins_answer, checkpoint_of}
pub use replication.Replication.{closed, closed_as, cut, ended, first_reading, is_batch, is_due, next_window, no_memory, not_begun, not_planned}
pub use replication.Replication.{parcel_for, plan_answer, scope_between, start_at, start_between, told_by}
pub use replication.Sync.{HasRefusedNone, MeetBoth, both, refused_back, refused_there}
pub use declared.replication.Plan.{Plan}
