pub mod Spared
pub mod EnvelopeReads
pub use Spared.{AllMayBe, IsSpared, looks_into, may_be}
pub use EnvelopeReads.{envelope_read, read_if_any}
