pub mod Sig
pub mod Stored
pub mod Rev
pub mod RevOrder
pub mod Text
pub mod TextLaws
pub mod Ancestry
pub mod AncestryLaws
pub mod Answers
pub mod Checks
pub mod NewRev
pub mod ShortSig
pub mod KeptRev
pub mod KeptForm
pub mod SmallRev
pub mod SmallForm
pub use Sig.{IsStored, is_sig, is_sig_byte, padded, sig_read}
pub use Rev.{IsRev, RevId, rev_cmp}
pub use RevOrder.{rev_cmp_exact, rev_cmp_total, rev_eq_is, rev_tie_is, rev_tie_self}
pub use Text.{cut_at, generation_read, is_digit, rev_read, rev_text, value_of, with_digit, with_sig}
pub use TextLaws.{rev_read-text, rev_text-read}
pub use Ancestry.{FallsByOne, IsAncestry, ancestry_read, edges_of, head_of, is_among, numbered}
pub use AncestryLaws.{edges_at, edges_end, falls_numbered, length-numbered}
pub use Checks.{named, or_refused, refused_if, ◌>>=◌}
pub use NewRev.{edit_rev, edit_text, next_generation, parent_text}
unfoldable pub use NewRev.{edit_sig}
pub use ShortSig.{digit_of, digits_of, is_hex_digit, is_short, text_in}
unfoldable pub use ShortSig.{bytes_in}
pub use SmallRev.{blocks_of, is_long}
pub use declared.fault.RevFault.{RevFault}
