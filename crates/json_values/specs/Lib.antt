pub mod LineView
pub mod LineCode
pub mod Plain
pub mod Left
pub mod Entries
pub mod LineOrder
pub mod Members
pub mod Escapes
pub mod Words
pub mod Lexer
pub mod Place
pub use LineView.{line_items, line_members, line_view}
pub use Plain.{AreItemsPlain, AreMembersPlain, ArePlain, IsPlainToken, Narrows, PlainIf}
pub use Entries.{Entry, IsGapFor, IsPlaceOf, IsRising, MovesLast, names_of, put_entry}
pub use LineOrder.{AllBehind, AreOrdered, IsInOrderOfNames, IsOrdered}
pub use Members.{entries_of}
pub use Escapes.{Escape, mode}
pub use Lexer.{has_backslash}
pub use Words.{IntegerAt, IsLiteral}
pub use Place.{NotBeforeComma, begins_at, begins_key, closes_at, ends_object, of_string, refused_at, tokens_at}
pub use declared.line.LineValue.{Array, Bool, LineValue, Null, Number, Object, String, the_lemmas}
pub use declared.plain_texts.PlainTexts.{PlainTexts}
