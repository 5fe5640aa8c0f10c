pub mod Escapes
pub use Escapes.{between, both_units, escape_seen, more_chars, seen_quoted, seen_visible}
