pub mod Seen
pub use Seen.{adds_quoted, adds_visible, seen_none, seen_then, seen_trans, told_by}
