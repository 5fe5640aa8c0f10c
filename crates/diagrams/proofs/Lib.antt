pub mod Inks
pub mod ShownTexts
pub mod RowLemmas
pub mod RunLemmas
mod PictureLemmas
pub mod BranchLemmas
pub mod Leaves
pub mod ColumnLemmas
pub mod OpenRows
pub use Inks.{drawn, drawn_by, drawn_plain, drawn_then, plain_by, sign_by, text_by, then_by, then_text}
pub use ShownTexts.{escaped_shown, safe_shown, seen_shown, shown_more}
pub use RowLemmas.{all_more, counts_all, counts_more, rows_more}
pub use RunLemmas.{seen_as, until_as}
pub use PictureLemmas.{picture_whole, until_end, until_head, until_lines, until_tail}
pub use ColumnLemmas.{columns_first, columns_next, marked_from, marks_all, marks_next}
pub use Leaves.{added, draws_new, none_open, picture_by, takes_by}
pub mod PathLemmas
pub mod LeafOrder
