pub mod Running
pub mod Feeding
pub mod AnswersWritten
pub use Running.{Answered-end, Begins-nothing, Breaks-behind, Breaks-more, Converts-end, Feeds-joined, Feeds-none, Finishes-breaks, Finishes-end, Ran, Ran-end, Ran-fed, Ran-more}
pub use Running.{Ran-none, Stopped-before, Stopped-end, Stopped-in, Stopped-none, Stopped-refused, Stopped-within, Tracks-begun, Tracks-kept, Tracks-refused, Tracks-rest, Tracks-same, Tracks-start, start_going, texts-piece}
pub use Feeding.{Begins-run, Begins-told, Breaks-rest, Feeds-rest, Feeds-run, Feeds-told, bytes_read, ended_rest, found_told, part_read, passed_told, run_fed}
pub use AnswersWritten.{Converts-refused, reads_answers, reads_changes, reads_leaves, reads_script}
