pub mod Buffers
pub mod Answers
pub mod DocId
pub mod Members
pub mod Body
pub mod Document
pub mod Revisions
pub mod DocRead
pub mod DocText
pub mod IdText
pub mod Marks
pub mod Chosen
pub mod ChosenLaws
pub mod Numbers
pub use Buffers.{Keeps}
pub use Answers.{GivesUnlessMemory}
pub use DocId.{doc_id_read, is_design, is_special}
pub use Members.{has_special, has_unknown, is_unknown, plain_members}
pub use Body.{IsBody, IsWritten, body_text}
unfoldable pub use Body.{body_read}
pub use Document.{IsDocument}
pub use Revisions.{agrees, alone, ids_read, is_head, matched, numbered_from, rev_member, rev_of_text, revisions_read, sig_of, sigs_of, start_of}
pub use Revisions.{with_revisions}
unfoldable pub use Revisions.{revs_read}
pub use DocRead.{flag_of, id_member, id_of}
unfoldable pub use DocRead.{doc_read}
pub use DocText.{deleted_text, head_text, rest_text, sig_text, sig_texts, start_text}
unfoldable pub use DocText.{doc_text, revs_text}
pub use Marks.{AreMarks, is_marked, is_marked_of, place_from, place_of}
pub use Chosen.{Choice, IsText, ids_text, is_chosen}
pub use ChosenLaws.{any_dedup, ids_of-rising, some_dedup}
pub use Numbers.{AllReadBack, ItemsReadBack, MembersReadBack, ReadsBack}
pub use declared.fault.DocFault.{DocFault}
