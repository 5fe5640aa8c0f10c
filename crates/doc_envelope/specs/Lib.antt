pub mod Texts
pub mod Members
pub mod Names
pub mod Envelopes
pub mod Steps
pub mod Carried
pub mod Printed
pub mod Stored
pub mod Streams
pub mod PutFronts
pub mod TakeFronts
pub use Texts.{Closed, EndsString, IsPlain, Spaces, ends, escaped, is_json, is_space, list, nothing, object, other, plain, space, string}
pub use Members.{Escaped, Mode, Outside, Quoted, ends_member, first_length, is_blank, joined, members_of, mode_behind, nesting_behind, object_of}
unfoldable pub use Members.{length_in, members_in}
pub use Names.{has_id, has_name, is_log, trimmed, value_of}
pub use Envelopes.{all_may_stand, envelope_of, enveloped, goes, if_any, if_json, is_envelope, is_envelope_value, may_stand, stays, string_of}
pub use Envelopes.{unfolded, unfolded_member, unfolded_members, whole_name, whole_of}
pub use Steps.{added, behind_comma, held_by, held_with, taken_with, text_with, with_held}
unfoldable pub use Steps.{all_taken, helds_by, texts_with}
pub use Printed.{IsPrinted}
pub use Stored.{HasPrintedFront, held_of, made_of, printed_of}
pub use Streams.{Front, IsRun, MayStream, Opens, is_streamable, next, open_last, open_later, run, start}
unfoldable pub use Streams.{mode_after}
pub use PutFronts.{InAttachments, IsPutStart, PutFront, before_last, held_from, made_from}
pub use TakeFronts.{AppendsOpen, IsTakeStart, TakeFront, whole_before}
