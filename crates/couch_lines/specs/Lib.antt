pub mod Tasks
pub mod Status
pub mod Runs
pub use Tasks.{Refused, Refuses, RefusesBy, Says, SaysBy, command_line}
pub use Runs.{IsDone, Makes, is_drawn, wanted_of, words_of_task}
pub use declared.options.NoTask.{NoTask}
pub use declared.tasks.Task.{Task}
