pub mod WordLemmas
pub mod RevLemmas
pub mod LineLemmas
pub mod ColumnLemmas
pub mod TurnLemmas
pub mod LogLemmas
pub use WordLemmas.{lacks_not, last_unique, none_of, some_of}
pub use RevLemmas.{begins_bad, begins_no, begins_yes, clash, falls_init, falls_read, no_piece, pieces, pieces_first, pieces_last, read_more}
pub use RevLemmas.{revs_more, revs_unique}
pub use LineLemmas.{after, all_findings, all_rows, doc_id, doc_one, doc_two, if_none, leaf_list, leaf_none, listed_list, listed_unique, named_unique}
pub use LineLemmas.{none_at, none_map, other_told, some_at}
pub use ColumnLemmas.{column_unique, front_unique}
pub use TurnLemmas.{drop_all, reads_all, reads_more, reads_none, turns_unique}
pub use LogLemmas.{ReadsEntries, entries_all, entries_more, entries_none, entries_unclosed, entry_shorter, head_cut, head_is, heads_same}
pub use LogLemmas.{member_unique, none_at_all, one_entry, values_same}
