pub mod Json
pub mod Splits
pub mod Folds
pub mod KitValues
pub mod Modes
pub mod TextRuns
pub mod TakeContents
pub mod TakeStrings
pub mod TakeMembers
pub mod TakeSteps
pub mod TakeFronts
pub mod Printed
pub mod PrintedMembers
pub mod PrintedEnvelopes
pub mod Round
pub mod Fronts
pub mod LikeTokens
pub mod Contents
pub mod Words
pub mod Runs
pub mod RunsUtf8
pub mod OpenMembers
pub mod EnvelopeStrings
pub mod PutRuns
pub mod PutFronts
pub use Json.{no_utf8, utf8}
pub use Splits.{length_over, length_step, length_stop, members_first, members_none, no_bytes, other_byte, quoted_end, quoted_escape, quoted_last, quoted_other, quoted_run}
pub use Folds.{fold_enveloped, taken_first, taken_none, taken_over}
pub use KitValues.{all_view, empty_utf8, no_envelope, no_string, put_end, put_none, quoted_behind, taken_end, value_envelope, value_string}
pub use TextRuns.{first_run, log_run}
pub use TakeSteps.{id_more, take_begins, take_step_id, take_step_none, take_step_some}
pub use TakeFronts.{take_front_first, take_front_id, take_front_json, take_front_log, take_front_long, take_front_none, take_front_some, take_front_start, take_front_utf8}
pub use Printed.{begin_printed, front_marked, front_same, printed_envelope}
pub use PrintedMembers.{ascii_of, begins_string, id_some, ids_end, ids_shorter, ids_step, printed_deleted, printed_id, printed_rev, printed_revisions, printed_revs, printed_string, rest_all, some_of}
pub use Round.{put_envelops, take_gives_back}
pub use Fronts.{runs_long, runs_none, runs_output, runs_same, runs_some}
pub use Contents.{content_closed, content_run}
pub use Runs.{document_run, mode_append, run_lex, run_outside, run_quoted}
pub use RunsUtf8.{json_run, run_utf8, utf8_run}
pub use OpenMembers.{length-append_end, opens_all, opens_step}
pub use PutFronts.{put_front_first, put_front_id, put_front_json, put_front_log, put_front_long, put_front_none, put_front_some, put_front_start, put_front_utf8, put_started}
