pub mod Json
pub use Json.{text_is}
mod Numbers
pub use Numbers.{number_read}
mod Pairs
pub use Pairs.{pair_added}
