pub mod Readings
mod RunTexts
mod PlainStrings
mod CutTexts
pub mod Mirroring
pub mod MirroredBytes
pub mod Passed
pub mod Bytes
pub mod Texts
pub mod Itself
pub mod AnswerTexts
pub mod LineTexts
pub mod ChangeTexts
pub mod FeedTexts
pub use Readings.{after-append, after_copied, after_taken, given_none, not_found, pieces-append, pieces_before, pieces_copied, pieces_taken, rest_of}
pub use RunTexts.{continues_close, continues_end, continues_escape, continues_open, continues_other, continues_quote, continues_run, continues_same}
pub use RunTexts.{continues_solid, continues_then, copies_none, more_by-min}
pub use PlainStrings.{ascii_of, plain_string}
pub use AnswerTexts.{answers_read}
pub use LineTexts.{ends_lines, line_end_given, lines_end, lines_read, stood_before}
pub use ChangeTexts.{changes_read}
pub use FeedTexts.{leaves_read}
