pub mod Arguments
pub mod Asking
pub mod Comparing
pub mod Confirming
pub mod Conflicting
pub mod Counting
pub mod Diffing
pub mod Documents
pub mod Halves
pub mod Lists
pub mod Missing
pub mod Naming
pub mod Ranking
pub mod Receiving
pub mod Selecting
pub mod Splitting
pub mod Stating
pub use Arguments.{EndsFor, StepsFor}
pub use Asking.{HasAsked, IsAsking, ask_body, asked_items, asked_leaf, has_begun}
pub use Comparing.{HasCompared, IsComparing, compared, compared_by, compared_line, compared_text, ids_in, list_flags, named_leaves, names_id, wrong_compared}
pub use Counting.{IsCounting, counted_as, failed, failed_end, wrong_line}
pub use Diffing.{HasDiffed, IsDiffing, diff_body, diff_member, diff_text}
pub use Documents.{add_leaves, distinct, docs_of, has_leaf, has_rev, ids_of, revs_at, revs_of}
pub use Halves.{first_part, has_second_part, is_empty_line, part_flags, second_part}
pub use Lists.{is_wrong, is_wrong_entry, leaves_in, listed}
pub use Missing.{HasLacked, IsLacking, are_about, diffed_docs, diffed_flags, is_about, missing_among, missing_at, missing_by, missing_in_input, missing_leaves, missing_line, missing_lines, missing_text, wrong_diffed}
pub use Naming.{HasNamed, IsNaming, name_line, name_lines}
pub use Receiving.{DocView, HasReceived, IsReceiving, WantedView, answered_by, doc_at, doc_of, doc_or_new, doc_view, head_of, heads_in, is_answer, is_empty, is_marked, is_received, is_requested, is_stored, is_unnamed, lacks_any, lacks_by, leaf_at, missing_in, named, passed_line, passed_on, received_by, received_leaves, received_text, requested_by, requested_in, told, told_by, told_in, told_of, unmarked, wanted_at, wanted_revs, wanted_view, with_leaf, with_wanted, wrong_flags, wrong_received}
pub use Splitting.{HasSplit, IsSplitting, complete_text, fits, has_space, last_text, part_text, parts_text, printed_part, split, unended_line, with_line}
pub use Stating.{HasStated, IsReading, IsStating, StateView, StatesView, entries_of, head_in, head_read, is_damaged, is_right, is_wrong_line, last_state, no_state, place_of, put_at, rev_about, state_about, state_at, state_by, state_line, state_lines, state_of, state_or_none, state_view, stated, stated_by, stated_ids, states_of, states_text, states_view, stored_revs, value_at, with_rev, wrong_in}
pub use Selecting.{Choice, HasSelected, IsClosed, IsOpening, IsSelecting, IsStage, choice_of, chosen, first_copy, has_head, has_number, is_chosen, is_copy_damaged, is_copy_other, is_entry, is_head, is_number, is_number_of, is_selected, lacks_chosen, lacks_number, last_number, leaf_number, lines_at, noted_number, number_at, other_hash, printed, prints, second_copy, selected_leaves, selected_of, selected_revs, selected_text, text_number}
pub use Confirming.{ClosesBlock, EndsLine, HasConfirmed, IsConfirming, KeepsLine, confirm_text, confirms_more, docs_in, first_has_doc, found_from, found_in, found_on, is_told_of, is_at, is_at_given, is_doc_line, is_not_found, is_rest, is_told, is_without_sums, lacks_line_of, lacks_text, lacks_view, looked, noted, noted_all, noted_by, open_lacks, report, report_at, report_text, stored_report, tells, text_or_none, texts_in, with_found, without}
pub use Conflicting.{HasConflicts, HistoriesView, IsConflicting, add_entry_head, add_head, add_history, ancestry, ancestry_text, comma_text, conflict_text, conflicts_report, conflicts_text, doc_line, flag_text, has_two_live, heads_of, heads_view, histories_of, histories_view, is_in_conflict, known_count, leaf_line, leaves_or_none, ranked_leaves, revs_known, winner_text}
pub use Ranking.{generation_in, insert_ranked, is_above, is_ancestor, is_dash, leaves_among, number_in, outranks, parts_by, ranked, rev_parts}
