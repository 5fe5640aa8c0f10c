pub mod RestLemmas
pub mod CompareLemmas
pub mod trust
pub use RestLemmas.{give_told, handed_from, held_found, holds_found, left_found, left_some, memory_from, piece_given, piece_some, split_least}
pub use CompareLemmas.{Counted, compare_rest}
pub use trust.Audit.{audits_clean, finds_none}
