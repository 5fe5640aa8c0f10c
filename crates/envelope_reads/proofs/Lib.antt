pub mod Depths
pub mod Sparing
pub use Sparing.{doc_spares, failed_read, given_spares, made_envelope, nothing_read, read_spared}
