pub mod Early
pub mod Expected
pub mod Pages
pub mod Runs
pub mod Sync
pub mod Crews
pub use Early.{early_answer}
pub use Expected.{IsExpectedRun}
pub use Pages.{AreAllowed, ArePages, IsPaged}
pub use Runs.{ClosesRun, EarlyOrLate, EndsRun, EndsWell, IsConcluded, IsRecorded, LeavesOrPuts, PutsEntry, RunsOn, TellsLowWater, UnlessMemory}
pub use Runs.{concluded, fewer, recorded, refused, stopped, unfinished_at}
pub use Sync.{both, refused_back, refused_there}
pub use Crews.{crew_of, most_windows}
