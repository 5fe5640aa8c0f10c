pub mod Lists
pub mod Answers
pub mod Database
pub mod Put
pub mod Readied
pub mod Feed
pub mod Stored
pub mod FeedLaws
pub mod Edit
pub mod ListLaws
pub mod MemberLaws
pub mod DocumentTreeLaws
pub mod DatabaseLaws
pub mod WriteLaws
pub mod Messages
pub mod MessageLaws
pub use Lists.{Among, EachOnce, Rises}
pub use Database.{DatabaseValue, DocumentValue, Id, IsDocumentTree, LawfulDatabase, in_life, most, tree_in, tree_of, with_tree, without}
pub use Put.{PutGives, after_put, content_of, is_change, is_changed, put_answer, put_told}
pub use Readied.{AreMade, AreMadeAll, IsMadeOf}
pub use Feed.{IsWindow, RowValue, WindowValue, chosen_feed, chosen_rows, feed, last_seq, page, page_answer, page_end, row_of, window_of}
pub use Stored.{AllBelow, AreFew, ArePlaces, AreRows, InOrder, IsKept, IsPlace, IsTable, IsWritten, Sets, TableValue, above, at_seq, database_of}
pub use Stored.{document, documents, documents_of, feed_of, feed_without, found, id_at, is_live, live, live_upto, named, row_by, rows_within, seq_of}
pub use Stored.{swept, tree_at}
pub use FeedLaws.{IsWindow-page, both_hold, chosen-all, feed-none, feed-page, in_range, rises_from, rises_le}
pub use Edit.{EditGives, after_edit, after_edited, edit_answer, edit_document, edit_id, edit_revs, edited, parent_answer}
pub use ListLaws.{all_members, any_left, both_false, id_is, id_same, none_append, none_some, some_is}
pub use MemberLaws.{Among-last, Among-left, Among-map, Among-mapped, Among-push, all_member, any_from, any_member, at-append, at-end, each_member}
pub use MemberLaws.{each_push, found_member}
pub use DocumentTreeLaws.{IsTree-no_revisions, leaves-no_revisions, merged_document, no_bodies}
pub use DatabaseLaws.{IsDocumentTree-tree_in, IsDocumentTree-tree_of}
pub use WriteLaws.{IsLater, IsLater-after_put, IsLater-later, IsLater-same, tree_in-with_tree}
pub use Messages.{AskedValue, IsAsked, IsParcel, ParcelValue, WantedValue, brings, document_at, document_in, fetched, gone_of, is_answered}
pub use Messages.{is_rev_of, leaf_document, open_revs, opened, revs_diff, want_first, wanted}
pub use MessageLaws.{IsAsked-revs_diff, IsParcel-open_revs}
pub use declared.prepared_tree.PreparedTree.{PreparedTree}
pub use declared.fault.BaseFault.{BaseFault}
pub use declared.kept.Kept.{Kept}
