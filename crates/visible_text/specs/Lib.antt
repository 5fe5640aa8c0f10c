pub mod Visible
unfoldable pub use Visible.{is_hidden}
pub use Visible.{IsSeen, escape_of, hidden_ranges, quoted, quoted_char, quoted_chars, unit_of, visible, visible_char}
