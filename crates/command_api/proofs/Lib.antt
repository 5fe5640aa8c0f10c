pub mod MembersLemmas
pub mod TextLemmas
pub mod TellingLemmas
pub mod CheckLemmas
pub mod CommandLemmas
pub use MembersLemmas.{all_among-keys}
pub use TextLemmas.{list_more, piece_last, piece_on, rows_more, texts-first, texts-more, texts_step, two_parts}
pub use TellingLemmas.{both, changed_is, does, does_nothing, gave_up_at, handed_on, is_absent, is_found, is_missing, is_there, may_tell, passes}
pub use TellingLemmas.{printed, reads, refused_memory, stops, taken_back, tree_is, unless_memory}
pub use CheckLemmas.{bound, found}
pub use CommandLemmas.{room_answered, room_refused}
