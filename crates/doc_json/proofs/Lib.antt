pub mod Keeping
pub mod Kept
pub mod BodyReads
pub mod DocReads
pub mod SigTexts
pub mod Sorted
pub mod WrittenTexts
pub mod SigBytes
pub mod DocData
pub mod Ancestries
pub mod FoundRevisions
pub mod NumberedRevisions
pub mod ReadBack
pub mod Choosing
pub mod ChosenTexts
pub mod ChosenBytes
pub mod Marking
pub mod Outlines
pub mod Integers
pub mod Pushes
pub mod QuotedTexts
pub mod MembersLeft
pub mod NoneKnown
pub mod PlainPushes
pub mod OwnedMembers
pub mod Refusals
pub use Keeping.{kept_if, kept_more, kept_then}
pub use Kept.{looked_at, more, none_yet}
pub use BodyReads.{body_fraction, body_no_object, body_ok, body_special, is_body, is_object, plain_members_plain}
pub use DocReads.{accepted, attached, bad_flag, bad_id, bad_revs, found_at, fraction, is_some-option_map, no_object, ok_value, unknown}
pub use SigTexts.{sig_texts-first, sig_texts-more}
pub use FoundRevisions.{head_none, head_some, ids_test, numbered_ok, revs_by, revs_refused, sigs_count, sigs_first}
pub use NumberedRevisions.{count_refused, is_ancestry, is_read, start_refused}
pub use ReadBack.{read_back}
pub use Choosing.{found_by}
pub use ChosenBytes.{bytes_of_utf8, each_more}
pub use Marking.{marked_more, not_among}
pub use Outlines.{written_text}
pub use Integers.{below_zero, is_below_zero, is_unsigned}
pub use Pushes.{item_pieces, member_pieces, member_put, moved}
pub use QuotedTexts.{known_quoted, standing_quoted}
pub use MembersLeft.{count}
pub use NoneKnown.{none_plain}
pub use PlainPushes.{exact_step, numbers_step, order_step, text_step}
pub use OwnedMembers.{behind_first}
pub use Refusals.{out_of_memory, refused}
