pub mod Answers
pub mod Counts
pub mod Entry
pub mod Log
pub mod LogLaws
pub mod RepId
pub mod RepIdLaws
pub mod Logs
pub mod LogsLaws
pub mod Stored
pub mod StoredLaws
pub mod Time
pub mod TimeLaws
pub mod Text
pub mod TextLaws
pub use Answers.{GivesUnlessMemory}
pub use Counts.{AddUp}
pub use Entry.{EntryValue, IsSound, value_of}
pub use Log.{ChangesOnly, IsLog, common, entry_for, holds, is_of, put_answer, put_beside, recorded_of, replaced, with_entry}
pub use LogLaws.{ChangesOnly-with_entry, IsLog-nothing, IsLog-with_entry, common-IsCommon, common-at, common-behind, common-le, common-none}
pub use RepId.{same_rep}
pub use RepIdLaws.{same_rep-is, same_rep-self}
pub use Logs.{log_in, logs_with, put_answer_in}
pub use LogsLaws.{LogsValue, log_in-absent, log_in-found}
pub use Stored.{IsKeyed, at_session, newest_first}
pub use StoredLaws.{EachSessionOnce, IsKeyed-push, IsKeyed-set, any-lookup, find-chosen, find-lookup, insert_entry-present, newest_first-push}
pub use StoredLaws.{newest_first-set, same_id}
unfoldable pub use Time.{time_text}
pub use TimeLaws.{time_text-date}
pub use Text.{entry_json, entry_with, listed, log_text, log_with, rep_text}
unfoldable pub use Text.{id_digits}
pub use TextLaws.{rep_text_injective}
pub use declared.fault.LogFault.{LogFault}
