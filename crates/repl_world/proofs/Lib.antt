pub mod Messages
pub mod Steps
pub mod Runs
pub use Messages.{asked_more, parcel_more, window_more}
pub use Runs.{appended_err, appended_ok, new_refused, new_tied, run_all, run_next, settled_err, settled_ok, stopped_at_step, taken_tied, trustworthy}
