pub mod Sums
pub mod Found
pub mod Parcels
pub mod Windows
pub mod Gates
pub mod Faults
pub mod Boards
pub mod Paging
pub mod Grown
pub mod Workers
pub mod Idle
pub mod Gathered
pub mod Scopes
pub use Sums.{once_below, times, total, weigh}
pub use Found.{FoundValue}
pub use Parcels.{Accounts, Balanced, IdleIsEmpty, has_got, has_sent, parcel_view, parcels}
pub use Windows.{Covers, KeepsRole, Numbered, has_read, has_taken, numbers, window_view}
pub use Faults.{Allows, AllowsOn, IsHaltOn, IsLateOn, IsOneFault, IsStepFault, fault_of}
pub use Boards.{AreBack, AreRisen, AreSeated, AreSeats, HasNothing, HaveRisenBy, HaveShown, IsRisen, IsSeated, MayFill, WorksAt, held}
pub use Paging.{AllowsMore, HasNoWindows, HasPages, IsNext, IsOneLess, KeepsPages}
pub use Grown.{GrownPeer, HasRun, IsAnswerOf, TargetKeeps}
pub use Workers.{FetcherKnows, WriterKnows, WriterShows, amounts, names}
pub use Gathered.{FetchedKnows, IsOneOf, IsWhole, StopsWhere, Tells, WrittenKnows}
pub use Idle.{IsIdleFetcher, Keeps, Shows, IsIdle, IsIdleWriter, fetchers_in, seat_of, writers_in}
pub use Scopes.{HasRest, HasStarted, HaveEnded, IsReady, IsStarting}
pub use declared.channels.Channels.{Channels}
pub use declared.fault.Halt.{Halt}
pub use declared.fault.PoolFault.{PoolFault}
pub use declared.gate.Place.{Place}
pub use declared.gather.FetchedAll.{FetchedAll}
pub use declared.gather.WrittenAll.{WrittenAll}
pub use declared.parcels.ParcelMessage.{ParcelMessage}
pub use declared.parcels.ParcelView.{ParcelView}
pub use declared.threads.Ended.{Ended}
pub use declared.threads.Owned.{Owned}
pub use declared.gather.Rest.{Rest}
pub use declared.windows.WindowMessage.{WindowMessage}
pub use declared.windows.WindowView.{WindowView}
pub use declared.worker.Roles.{Roles}
pub use declared.worker.Worker.{Worker}
pub use declared.worker.WorkerPromise.{WorkerPromise}
pub use declared.writer.Writer.{Writer}
pub use declared.fetcher.Fetcher.{Fetcher}
