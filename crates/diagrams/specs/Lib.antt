pub mod Shown
pub mod Branches
pub mod Ancestries
pub mod Shapes
pub mod Ink
pub mod Tallies
pub mod Drawing
pub mod Columns
pub mod Rows
pub use Shown.{IsEscaped, IsSafe, done, entity_of, is_markup, named, plain, shown, shown_char}
pub use Tallies.{none_counted, with_line, with_told, with_unknown}
pub use Ink.{Draws, Piece, Sign, bar, bars_of, caption, chart, count, counts_of, edit, edit_of, edits_of, filled, found, heading, ink_of, label_text}
pub use Ink.{leaf, leaf_sign, listed, log, mark, moment, most_from, node_label, number, ratio, reached, shape_text, share, short, short_text}
pub use Ink.{shown_text, sign, sign_in, sign_ink, signs_of, signs_of_found, signs_of_log, signs_of_row, signs_of_session, table_text, title, whole}
pub use declared.document.Document.{Document}
pub use declared.document.Leaf.{Leaf}
pub use declared.form.Form.{Form}
pub use declared.reading.Whole.{Whole}
pub use declared.tally.Outcome.{Outcome}
pub use declared.tally.Tally.{Tally}
