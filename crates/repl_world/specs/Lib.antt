pub mod Bags
pub mod WorldCode
pub mod Worlds
pub mod Tied
pub use Bags.{AreSound, BagValue, empty_bag, told, told_where, with_window}
pub use Worlds.{CutShort, IsStopped, StoppedIn, WorldValue, appends, backs_up, beginning_in, begins, crashed, differs, entry_in, fetches, happens}
pub use Worlds.{log_of_source, new_answer, new_world, paged, puts, reads_log, rep_of, restores, run, settles, stops}
pub use Tied.{HoldNone, IsTrustworthy, IsWorld, OwnAsked, OwnParcel}
pub use declared.step.Step.{Step}
