pub mod Journal
pub mod Places
pub mod Sealing
pub mod Wrong
pub use Journal.{Confirmed, IsGreatest, block, nothing}
unfoldable pub use Journal.{block_hash, first_chain, first_seq, is_sum, sum_head, sum_line}
pub use Places.{IsAt, Place, TookAs, closed, damaged, ended, ended_by, held_more, is_confirmed, next, place_after, start}
unfoldable pub use Places.{end_in, hash_at, right_end, seq_of}
pub use Sealing.{EndsRight, EndsSeal, EndsWrong, HasSealed, HasSealedPart, IsSeal, IsSealedOn, IsSealedPart, IsSealing, IsUnsealedOn, Seals, SealsBlock, SealsOn, wrong_after}
pub use Wrong.{first_index, wrong_at}
