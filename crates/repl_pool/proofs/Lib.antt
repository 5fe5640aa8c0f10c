pub mod RunPages
pub mod Ending
pub mod Closing
pub mod LowWater
pub mod Shown
pub mod NewSeats
pub mod RunErrors
pub mod RunLaws
pub mod Syncing
pub mod Crews
pub use RunPages.{begun_fresh}
pub use Ending.{begun_held, begun_run, grown_conclude, grown_record, grown_then, held_grown}
pub use Closing.{ends_either, puts_entry}
pub use Shown.{risen_by, shown_end}
pub use NewSeats.{new_left, new_taken}
pub use RunLaws.{Passes, ends_free, given_grown, no_workers, nothing_read, passes, runs_begun, runs_early, runs_refused, shown_well}
pub use Syncing.{run_leaves}
pub use Crews.{crew_most, crew_some}
