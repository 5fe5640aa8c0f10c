pub mod Printing
pub mod Reading
pub use Reading.{HasRun-begun, HasRun-cut, HasRun-cut_end, HasRun-done, HasRun-line, HasRun-none, HasRun-same, HasRun-stopped, IsDone-given, IsStopped-given, after_line, joined-append, on_err, on_err_map, on_ok, regroup}
pub use Printing.{done_by, runs_by, stopped_by}
