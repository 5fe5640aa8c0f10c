pub mod Arguments
pub mod Asked
pub mod Compared
pub mod Confirmed
pub mod Counts
pub mod Diffed
pub mod Documents
pub mod Halves
pub mod Lacked
pub mod LacksTables
pub mod Lookups
pub mod Histories
pub mod Named
pub mod Printed
pub mod Ranked
pub mod Receiving
pub mod Requested
pub mod Selected
pub mod Splits
pub mod Stated
pub mod StateMaps
pub use Arguments.{done_for, stopped_for}
pub use Asked.{ask_end, ask_line, asked_items-append, has_begun-append, leaves_in-push}
pub use Compared.{compare_early, compare_first, compare_second, compare_separator, ids_named, ids_pair, leaves_named, leaves_pair}
pub use Counts.{count_end, count_line, count_none}
pub use Diffed.{diff_line}
pub use Lacked.{lacking_first, lacking_response, lacking_separator}
pub use Lookups.{any_key, at_entry, doc_added, doc_written, missing_found, rev_found, revs_found}
pub use Named.{named_end, named_step}
pub use Receiving.{break_step, received_right, received_wrong, request_step, response_step}
pub use Requested.{doc_put, texts_added}
pub use Splits.{on_all, split_next, split_same}
pub use Stated.{Verified, docs_at, docs_by, docs_put, put_again, reading_body, reading_sum, states_push, whole_before}
pub use StateMaps.{leaf_added, rev_added, rev_kept, rev_known, state_found, state_put, state_written}
pub use Selected.{Selects, first_ends, first_goes_on, first_step, lacks_on, none_numbered, number_inserted, number_on, number_put, opening_more, second_step, select_end, select_none, stored_leaves}
pub use Confirmed.{Kept, confirm_end, confirm_line, kept_at, kept_is, on_two, report_all, report_found, with_text}
pub use LacksTables.{kept_told, line_put, line_removed, line_written, none_stored, noted_none, noted_push, noted_untold}
pub use Ranked.{inserted, number_no, number_yes, ranked_more, views}
pub use Histories.{conflict_line, doc_heads, history_added}
pub use Printed.{ancestor_stored, ancestor_written, doc_counted, doc_printed, head_known, head_new, leaf_stored, parts_without}
