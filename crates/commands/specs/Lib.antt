pub mod words
pub mod Script
pub mod Trust
pub mod Streams
pub use words.{Asked, WordsAnswer, asked_as, asked_in, audit, backup, changes, compare, conflicts, doc, docs, edit, info, ledger, load, log}
pub use words.{replicate, restore, show, sync}
pub use Script.{AnswersAsked, Asks, IsNoObject, LinesAnswer}
pub use Trust.{IsTrusted, TrustedLines}
pub use Streams.{Prints}
pub use declared.words.CommandName.{CommandName}
