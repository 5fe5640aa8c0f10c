pub mod Checks
pub mod Members
pub mod Given
pub mod Texts
pub mod Telling
pub use Checks.{seen_as}
pub use Members.{all_among, are_texts, is_among, texts_of}
unfoldable pub use Members.{uuid_in}
pub use Given.{body_given_or_empty, choice_given, document_given, id_given, ids_given, rev_given}
pub use Texts.{ended, last_line, line_of_revs, text_of_any, texts_of_revs}
pub use Telling.{AnswersIn, Does, Reads, UnlessQuiet, database_of, hushed, told_by, told_hushed, told_of}
