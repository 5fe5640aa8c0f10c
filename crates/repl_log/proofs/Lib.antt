mod Floats
mod Listed
mod Logging
mod LogTexts
mod LogTables
pub use Floats.{items_have_float-texts}
pub use Listed.{entry_text, items_text-listed, listed_more}
pub use Logging.{Entries, Keyed, Lawful, Lawful-known, Lawful-new, entered, logged, not_held, put_answer-known, put_answer-new, put_answer-older}
pub use Logging.{recorded_of-lookup, with_entry-known, with_entry-new}
pub use LogTexts.{entry_pieces, log_pieces, moved}
pub use LogTables.{copied_next, logs_with-new, logs_with-set, put_answer_in-new}
