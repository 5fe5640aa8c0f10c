pub mod Wanted
pub mod State
pub mod Names
pub mod Signs
pub mod Lines
pub mod Objects
pub mod Values
pub mod Revs
pub mod Steps
pub mod Reading
pub mod Runs
pub mod Fronts
pub mod Mirrors
pub mod Passing
pub mod Grammar
pub mod LineGrammar
pub mod ChangeGrammar
pub mod FeedGrammar
pub mod Stored
pub use Wanted.{covered, is_strict, wants_changes, wants_documents, wants_leaves}
pub use State.{start}
pub use Names.{is_plain}
unfoldable pub use Names.{name_of}
pub use Signs.{begins_sign}
pub use Lines.{is_digit, is_lower, is_rev_byte}
pub use Steps.{is_refused}
unfoldable pub use Steps.{step}
pub use Reading.{Piece, after, end_of, given, has_rest, is_piece, last_end, piece_of, pieces, stops, whole}
pub use Grammar.{AreAnswers, AreDocs, Holds, IsAnswered, IsDoc, IsDocs, IsDocument, IsLateDocument, IsItems, IsList, IsMembers, IsNamed, IsObject, IsPlainDocument, IsValue, document, item}
pub use Grammar.{itself, last_item, last_list, last_value, list_first, log, no_items, no_members, no_more, no_object, object_first, of_last, of_list}
pub use Grammar.{of_object, of_other, of_passed, of_seq, value, with_items, with_members}
pub use Grammar.{doc, docs, first_id, last_doc, last_docs, late_id, no_docs, no_id, no_names, with_docs}
pub use ChangeGrammar.{AreChanges, AreRevs, IsChangeScript, change, empty, is_word_byte, last_rev, none, object, rev, word, words}
pub use Stored.{front_length_of, front_of, state_of}
pub use declared.place.Found.{Found}
pub use declared.place.LinePlace.{LinePlace}
pub use declared.place.Name.{Name}
pub use declared.place.Place.{Place}
pub use declared.place.Refusal.{Refusal}
