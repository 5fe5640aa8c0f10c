pub mod Forms
pub mod Words
pub mod Stored
pub mod Runs
pub use Words.{before, behind, document_text, last_text, part_text, rest_text, with_document, text_for, texts, words_behind, words_then}
pub use Stored.{made_of, words_of_wording}
pub use Runs.{Answered, Begins, Breaks, Feeds, IsBegun, IsLateAt, RestBreaks, Tracks, WritesInPart, Converts, EndsAnswers, EndsInPart, Fed, Finishes, IsAll, IsLeft, IsWhole, ReadsAnswers, Stopped, all_text, ended_of, judged_by}
pub use declared.run.AnswerFault.{AnswerFault}
