pub mod Hashes
pub mod Steps
pub mod Greatest
pub mod Sealed
pub mod Wrong
pub use Hashes.{hash_is, hash_message, seal_message}
pub use Steps.{at_closed, end_is, if_ok, joined-join, next_damaged, next_ended, next_held, took_ended, wrong_none}
pub use Greatest.{all_confirmed, is_greatest, is_read, place_more}
pub use Sealed.{has_sealed, part_sealed, sealed}
pub use Wrong.{first_index-push, wrong_end, wrong_more}
